-- What a typed read asks for, and its refusals: docs/FORMAT.md, "Faults".
use Rattle.std.specs.Prelude.{◌≡◌, ◌≢◌, ℕ, ◌<◌, ◌≤◌, ◌⊎◌, List, length, ⊤}
use Rattle.std.specs.Borrow.{Bor}
use Rattle.spa_format.specs.Words.{word_at, body_of, header_size}
use Rattle.spa_format.specs.Kind.{Kind, Fixed, type_number}
use Rattle.spa_format.specs.Tree.{Tree, array, choice, Shape, type_of, array_type, choice_type, object_type}
use Rattle.spa_format.specs.Front.{HasFront, Begins}
use Rattle.spa_format.specs.Faults.{Fault, StandsAtFront}
use Rattle.spa_format.specs.Faults as fault
use Rattle.spa_fixed_sized.specs.declared.fault.FaultKind.{FaultKind}
use Rattle.spa_fixed_sized.specs.declared.fault.FaultKind.TheVariants as fault_kind
use Rattle.spa_fixed_sized.specs.declared.fault.DeserializeError.{DeserializeError}
use Rattle.spa_fixed_sized.specs.declared.fault.DeserializeError.TheVariants as error
use Rattle.spa_bodies.specs.Reading.{OnFault, OnMemory, IsShortAt}

-- a refusal of a read, which may name bytes of the input
abbrev pub ReadRefusal : Type 0
ReadRefusal = DeserializeError (Bor (List ℕ))

-- how a read may be refused: the input, and the refusal
abbrev pub RefusingRead : Type 1
RefusingRead = List ℕ → ReadRefusal → Type 0

-- the fault of an input whose front isn't there, or has another type number than the one asked for
abbrev pub LacksBytes : ℕ → List ℕ → FaultKind → Type 0
LacksBytes t b fault_kind.Short = ¬ (HasFront b)
LacksBytes t b fault_kind.Tag = HasFront b × (word_at b 4 ≢ t)
LacksBytes t b fault_kind.Text = ⊥

abbrev pub LacksFront : ℕ → List ℕ → ReadRefusal → Type 0
LacksFront t b (error.Nom f) = (f.input.now ≡ b) × LacksBytes t b f.kind
LacksFront t b _ = ⊥

-- the refusal where no object is at the front, or where the body of one is too short for its type and its id
abbrev pub LacksObject : List ℕ → ReadRefusal → Type 0
LacksObject b (error.Nom f) = (f.input.now ≡ b) × LacksBytes object_type b f.kind
LacksObject b error.WrongSize = HasFront b × (word_at b 4 ≡ object_type) × (length (body_of b) < header_size)
LacksObject b _ = ⊥

-- what a typed read asks for: a pod of a type, an array over a kind, or a choice over a kind
pub data Asked : Type 0 where
  of_type : ℕ → Asked
  array_of : Kind → Asked
  choice_of : Kind → Asked

-- the type number that a typed read asks for
abbrev pub asked_type : Asked → ℕ
asked_type (of_type t) = t
asked_type (array_of k) = array_type
asked_type (choice_of k) = choice_type

-- the value is one that the read asks for
abbrev pub IsAsked : Asked → Tree → Type 0
IsAsked (of_type t) v = type_of v ≡ t
IsAsked (array_of k) v = (xs : List Fixed) × (v ≡ array k xs)
IsAsked (choice_of k) v = (s : Shape) × (f : ℕ) × (x : Fixed) × (xs : List Fixed) × (v ≡ choice s f k x xs)

-- the input has another type number than the one asked for: the pod's own, or that of an array's elements
abbrev pub HasOtherType : Asked → List ℕ → Type 0
HasOtherType (of_type t) b = word_at b 4 ≢ t
HasOtherType (array_of k) b =
    (word_at b 4 ≢ array_type)
    ⊎ ((word_at b 4 ≡ array_type) × (header_size ≤ length (body_of b)) × (word_at (body_of b) 4 ≢ type_number k))
HasOtherType (choice_of k) b = word_at b 4 ≢ choice_type

-- where a choice over a kind is asked for: the input begins with a choice over another one
abbrev pub BeginsOther : Asked → List ℕ → Type 0
BeginsOther (of_type t) b = ⊥
BeginsOther (array_of k) b = ⊥
BeginsOther (choice_of k) b = (v : Tree) × Begins b v × (type_of v ≡ choice_type) × ¬ (IsAsked (choice_of k) v)

-- the front is of the type that is asked for, and the fault stands there
abbrev pub StandsAsked : Asked → Fault → List ℕ → Type 0
StandsAsked a k b = (word_at b 4 ≡ asked_type a) × StandsAtFront k b

-- the fault of the bytes that a `Nom` refusal names
abbrev pub NamesBytes : Asked → List ℕ → FaultKind → Type 0
NamesBytes a b fault_kind.Short = ¬ (HasFront b)
NamesBytes a b fault_kind.Tag = HasFront b × HasOtherType a b
NamesBytes a b fault_kind.Text = StandsAsked a fault.Text b

-- The refusal names a fault that stands at the front of the input. One for want of memory names none, and there are no
-- other refusals.
abbrev pub NamesAsked : Asked → List ℕ → ReadRefusal → Type 0
NamesAsked a b (error.Nom f) = (f.input.now ≡ b) × NamesBytes a b f.kind
NamesAsked a b error.UnsupportedType = BeginsOther a b
NamesAsked a b error.InvalidType = StandsAsked a fault.InvalidType b
NamesAsked a b error.InvalidChoiceType = StandsAsked a fault.InvalidChoiceType b
NamesAsked a b error.MissingChoiceValues = StandsAsked a fault.MissingChoiceValues b
NamesAsked a b error.WrongSize = StandsAsked a fault.WrongSize b
NamesAsked a b error.OutOfMemory = ⊤
NamesAsked a b _ = ⊥

-- Any refusal but one for want of memory says that the input begins with no pod of a value that is asked for, and names
-- a fault that stands. One for want of memory says that the front is there and of the type that is asked for, and that
-- such a read takes memory. Where the front isn't there, the refusal is `Short`, whatever else the input has.
pub record RefusesAsked (a : Asked) (takes_memory : Type 0) (b : List ℕ) (e : ReadRefusal) : Type 0 where
  pub refused : OnFault ((v : Tree) → Begins b v → ¬ (IsAsked a v)) e
  pub named : NamesAsked a b e
  pub memory : OnMemory (takes_memory × HasFront b × (word_at b 4 ≡ asked_type a)) e
  pub short_first : ¬ (HasFront b) → IsShortAt b e
