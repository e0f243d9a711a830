-- How bytes are read as pods: docs/PROVED.md, "The programs".
use Rattle.std.specs.Prelude.{⊤, ◌≡◌, ◌+◌, ℕ, List, [], length}
use Rattle.std.specs.Borrow.{Bor}
use Rattle.spa_fixed_sized.specs.Faults.{kind_text}
use Rattle.spa_fixed_sized.specs.declared.fault.DeserializeError.{DeserializeError}
use Rattle.spa_format.specs.Faults.{Fault, Stands}
use Rattle.spa_format.specs.Front.{IsRefused}
use Rattle.spa_format.specs.Lenient.{ConveyMembers}
use Rattle.spa_format.specs.Pod.{AreMembers}
use Rattle.spa_format.specs.Tree.{Trees}
use Rattle.spa_bodies.specs.Reading.{Names, OnMemory}
use Rattle.spa_lenient.specs.Rewriting.{AreRewrittenLeniently, IsLeftLeniently}
use Rattle.spa_lenient.specs.Rewriting as lenient
use Rattle.spa_pod_commands.specs.declared.answer.Failure.{Failure}
use Rattle.spa_pod_commands.specs.declared.answer.Failure.TheVariants.{Pod, OutOfMemory}
use Rattle.spa_read.specs.Reading.{ConveysNothing, StandsLeniently}
use Rattle.spa_canonical.specs.Rewriting.{IsLeft}
use Rattle.spa_canonical.specs.Rewriting as exact
use Rattle.spa_recordings.specs.declared.reading.Reading.{Reading}
use Rattle.spa_recordings.specs.declared.reading.Reading.TheVariants.{Exact, Lenient}

-- the pods as which bytes are read: the bytes themselves, or leniently the encodings of the values that they convey
abbrev pub ReadsAs : Reading → (input pods : List ℕ) → Type 0
ReadsAs Exact input pods = pods ≡ input
ReadsAs Lenient input pods = AreRewrittenLeniently input [] pods

-- the bytes are read whole
abbrev pub IsAccepted : Reading → List ℕ → Type 0
IsAccepted Exact input = (vs : Trees) × AreMembers vs input
IsAccepted Lenient input = (vs : Trees) × ConveyMembers vs input

-- no pod is read at the front
abbrev pub IsNothing : Reading → List ℕ → Type 0
IsNothing Exact left = IsRefused left
IsNothing Lenient left = ConveysNothing left

-- a fault that stands has this name
abbrev pub IsNamed : (Fault → List ℕ → Type 0) → List ℕ → Type 0
IsNamed stands kind =
    (cause : DeserializeError (Bor (List ℕ))) × OnMemory ⊥ cause × Names stands cause × (kind ≡ kind_text cause)

-- no pod is read at the front, for a reason of this name
abbrev pub IsNoPod : Reading → (left kind : List ℕ) → Type 0
IsNoPod Exact left kind = IsRefused left × IsNamed (λ fault at. Stands fault at left) kind
IsNoPod Lenient left kind = ConveysNothing left × IsNamed (λ fault at. StandsLeniently fault at left) kind

-- some first pods are read, or none, and this is left behind them
abbrev pub IsLeftOf : Reading → (input left : List ℕ) → Type 0
IsLeftOf Exact input left = IsLeft input left
IsLeftOf Lenient input left = IsLeftLeniently input left

-- behind some first pods stands one that isn't read, for a reason of this name
abbrev pub IsUnreadAt : Reading → (input left kind : List ℕ) → Type 0
IsUnreadAt reading input left kind = IsLeftOf reading input left × IsNoPod reading left kind

-- the bytes aren't read as values that they convey
pub record IsUnreadLeniently (input : List ℕ) (place : ℕ) (kind : List ℕ) : Type 0 where
  pub left : List ℕ
  pub its_place : place + length left ≡ length input
  pub refused : (vs : Trees) → ¬ (ConveyMembers vs input)
  pub unread : IsUnreadAt Lenient input left kind

-- why bytes aren't read; as pods they are taken as they are
abbrev pub RefusesReading : Reading → List ℕ → Failure → Type 0
RefusesReading Exact input why = ⊥
RefusesReading Lenient input (Pod place kind) = IsUnreadLeniently input place kind.now
RefusesReading Lenient input OutOfMemory = ⊤
RefusesReading Lenient input _ = ⊥

-- Why not all pods of an input are read; only private clauses cite it.
abbrev pub RefusesList : Reading → (input left : List ℕ) → DeserializeError (Bor (List ℕ)) → Type 0
RefusesList Exact input left e = exact.RefusesList input left e
RefusesList Lenient input left e = lenient.RefusesList input left e
