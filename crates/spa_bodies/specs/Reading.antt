-- The answers and the refusals of a read: docs/FORMAT.md, "The front of an input" and "Faults".
use Rattle.std.specs.Prelude.{◌≡◌, ℕ, ◌⊎◌, List, ⊤}
use Rattle.std.specs.Borrow.{Bor}
use Rattle.spa_format.specs.Words.{word_at}
use Rattle.spa_format.specs.Tree.{Tree, string_type, bytes_type, bitmap_type, array_type, struct_type, object_type, choice_type}
use Rattle.spa_format.specs.Front.{HasFront, Begins, IsRefused, rest_of}
use Rattle.spa_format.specs.Faults.{Fault, Stands}
use Rattle.spa_format.specs.Faults as fault
use Rattle.spa_fixed_sized.specs.declared.fault.FaultKind.{FaultKind}
use Rattle.spa_fixed_sized.specs.declared.fault.FaultKind.TheVariants as fault_kind
use Rattle.spa_fixed_sized.specs.declared.fault.DeserializeError.{DeserializeError}
use Rattle.spa_fixed_sized.specs.declared.fault.DeserializeError.TheVariants as error

-- the input begins with a pod of this value, and `rest` follows it
pub record BeginsWith (input : List ℕ) (v : Tree) (rest : List ℕ) : Type 0 where
  pub begins : Begins input v
  pub follows : rest ≡ rest_of input

-- the input begins with a pod of a value of which the fact holds, and `rest` follows it
pub record IsRead (input rest : List ℕ) (P : Tree → Type 0) : Type 0 where
  pub value : Tree
  pub begins : Begins input value
  pub follows : rest ≡ rest_of input
  pub holds : P value

-- the type number is of a type whose values take memory: not of fixed size, and not of pointers
abbrev pub TakesMemory : ℕ → Type 0
TakesMemory t =
    (t ≡ string_type) ⊎ (t ≡ bytes_type) ⊎ (t ≡ bitmap_type) ⊎ (t ≡ array_type) ⊎ (t ≡ struct_type) ⊎ (t ≡ object_type) ⊎ (t ≡ choice_type)

-- the front is there, and is of a type whose values take memory
abbrev pub MayLackMemory : List ℕ → Type 0
MayLackMemory input = HasFront input × TakesMemory (word_at input 4)

-- the fact holds, or the refusal is for want of memory
abbrev pub OnFault : {I : Type 0} → Type 0 → DeserializeError I → Type 0
OnFault fact error.OutOfMemory = ⊤
OnFault fact _ = fact

-- the fact holds, or the refusal isn't for want of memory
abbrev pub OnMemory : {I : Type 0} → Type 0 → DeserializeError I → Type 0
OnMemory fact error.OutOfMemory = fact
OnMemory fact _ = ⊤

-- the refusal is `Nom` with `Short` at this input
abbrev pub IsShortAt : List ℕ → DeserializeError (Bor (List ℕ)) → Type 0
IsShortAt input (error.Nom f) = (f.kind ≡ fault_kind.Short) × (f.input.now ≡ input)
IsShortAt input _ = ⊥

-- the fault of a `Nom` refusal stands; `Tag` isn't a fault of an untyped read
abbrev pub NamesFaultKind : (Fault → Type 0) → FaultKind → Type 0
NamesFaultKind stands fault_kind.Short = stands fault.Short
NamesFaultKind stands fault_kind.Tag = ⊥
NamesFaultKind stands fault_kind.Text = stands fault.Text

-- The refusal names a fault that stands at its place. One for want of memory names none, and there are no other refusals.
abbrev pub Names : (Fault → List ℕ → Type 0) → DeserializeError (Bor (List ℕ)) → Type 0
Names stands (error.Nom f) = NamesFaultKind (λ k. stands k f.input.now) f.kind
Names stands error.InvalidType = (place : List ℕ) × stands fault.InvalidType place
Names stands error.InvalidChoiceType = (place : List ℕ) × stands fault.InvalidChoiceType place
Names stands error.MissingChoiceValues = (place : List ℕ) × stands fault.MissingChoiceValues place
Names stands error.WrongSize = (place : List ℕ) × stands fault.WrongSize place
Names stands error.OutOfMemory = ⊤
Names stands _ = ⊥

-- The refusal of the input is right. One for want of memory says that the front is there and of a type that takes memory. Any other
-- says that the front isn't there or is a pod of no value, and names a fault that stands. Where the front isn't there, it is `Short`.
pub record RefusesInput (input : List ℕ) (e : DeserializeError (Bor (List ℕ))) : Type 0 where
  pub refused : OnFault (IsRefused input) e
  pub memory : OnMemory (MayLackMemory input) e
  pub short_first : ¬ (HasFront input) → IsShortAt input e
  pub named : Names (λ k place. Stands k place input) e
