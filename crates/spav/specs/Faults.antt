-- The first fault of the caller's bytes, and its offset: docs/FORMAT.md, "Faults".
use Rattle.std.specs.Prelude.{◌≡◌, ◌+◌, ◌<◌, ℕ, List, length, take, drop}
use Rattle.spa_format.specs.Faults.{Fault, Short, Text, InvalidType, InvalidChoiceType, MissingChoiceValues, WrongSize}
use Rattle.spa_format.specs.Front.{IsRefused}
use Rattle.spa_format.specs.Pod.{AreMembers}
use Rattle.spa_format.specs.Tree.{Trees}
use Rattle.spa_canonical.specs.Look.{StandsAt, from_pod}
use Rattle.spa_canonical.specs.Rewriting.{IsLeft}
use Rattle.spa_canonical.specs.Depth.{NestsDeeper, levels_looked_into}

-- the number of a fault
abbrev pub fault_number : Fault → ℕ
fault_number Short = 1
fault_number Text = 2
fault_number InvalidType = 3
fault_number InvalidChoiceType = 4
fault_number MissingChoiceValues = 5
fault_number WrongSize = 6

-- Zero or more first pods are before the byte `top`; the fault stands at the byte `at`, in the pod that begins at `top`.
pub record FaultStands (input : List ℕ) (kind top at : ℕ) : Type 0 where
  pub first : Trees
  pub before : AreMembers first (take top input)
  pub inside : top < length input
  pub refused : IsRefused (drop top input)
  pub fault : Fault
  pub its_kind : kind ≡ fault_number fault
  pub behind : ℕ
  pub its_byte : at ≡ top + behind
  pub found : StandsAt fault from_pod behind (drop top input)

-- behind zero or more first pods there is one with a nesting depth above the levels that are looked into
pub record NestsTooDeep (input : List ℕ) : Type 0 where
  pub left : List ℕ
  pub behind : IsLeft input left
  pub nests : NestsDeeper levels_looked_into left
