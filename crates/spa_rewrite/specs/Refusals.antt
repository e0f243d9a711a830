-- Why pods aren't rewritten, where the fault stands, and what memory is asked for: docs/FORMAT.md, "The encoding of a value", "Faults".
use Rattle.std.specs.Prelude.{⊤, ◌≡◌, ◌+◌, ℕ, List, Option, Some, None, drop, ◌⊎◌}
use Rattle.std.specs.Borrow.{Bor}
use Rattle.spa_fixed_sized.specs.declared.fault.DeserializeError.{DeserializeError}
use Rattle.spa_fixed_sized.specs.declared.fault.FaultKind.{FaultKind}
use Rattle.spa_fixed_sized.specs.Faults.{kind_text}
use Rattle.spa_format.specs.Tree.{Trees, Tree}
use Rattle.spa_format.specs.Pod.{AreMembers}
use Rattle.spa_bodies.specs.Reading.{NamesFaultKind, OnFault, OnMemory}
use Rattle.spa_canonical.specs.Look.{StandsAt, from_pod}
use Rattle.spa_canonical.specs.Rewriting.{IsLeft, RefusesFront}
use Rattle.spa_format.specs.Front.{Begins}
use Rattle.spa_canonical.specs.Depth.{NestsDeeper, levels_looked_into}
use Rattle.spa_fixed_sized.specs.declared.fault.DeserializeError.TheVariants as error

-- the first refusal has the cause of the second one, whose place is given by bytes
abbrev pub IsFaultOf : {I : Type 0} → DeserializeError I → DeserializeError (Bor (List ℕ)) → Type 0
IsFaultOf e placed = kind_text e ≡ kind_text placed

-- a fault of this kind stands at this offset of the input, in the pod that begins at `top`; there is always an offset
abbrev pub StandsAtOffset : (input : List ℕ) (top : ℕ) → FaultKind → Option ℕ → Type 0
StandsAtOffset input top kind None = ⊥
StandsAtOffset input top kind (Some offset) =
    (at : ℕ) × (offset ≡ top + at) × NamesFaultKind (λ k. StandsAt k from_pod at (drop top input)) kind

-- what a `Nom` refusal says of its place
abbrev pub NamesOffset : (input : List ℕ) (top : ℕ) → DeserializeError (Option ℕ) → Type 0
NamesOffset input top (error.Nom fault) = StandsAtOffset input top fault.kind fault.input
NamesOffset input top _ = ⊤

-- Why an input isn't pods one after another: what is left behind some first pods, so many bytes, is refused so.
pub record RefusesListAt (input : List ℕ) (at : ℕ) (e : DeserializeError (Option ℕ)) : Type 0 where
  pub behind : IsLeft input (drop at input)
  pub refused : OnFault ((vs : Trees) → ¬ (AreMembers vs input)) e
  pub placed : DeserializeError (Bor (List ℕ))
  pub front : RefusesFront (drop at input) placed
  pub same : IsFaultOf e placed
  pub offset : NamesOffset input at e

-- the front is a pod, whose encoding takes memory, or nests too deep to be looked into
abbrev pub FrontAsksMemory : List ℕ → Type 0
FrontAsksMemory input = ((v : Tree) × Begins input v) ⊎ NestsDeeper levels_looked_into input

-- Why the front isn't rewritten, and what memory was asked for.
pub record IsRefusal (input : List ℕ) (e : DeserializeError (Bor (List ℕ))) : Type 0 where
  pub refused : RefusesFront input e
  pub asks : OnMemory (FrontAsksMemory input) e

-- What memory is asked for: a pod behind some first pods, or none, that nests too deep to be looked into.
abbrev pub AsksMemory : List ℕ → Type 0
AsksMemory input = (left : List ℕ) × IsLeft input left × NestsDeeper levels_looked_into left
