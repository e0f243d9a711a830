-- The refusals inside the readers: docs/FORMAT.md, "Faults".
use Rattle.std.specs.Prelude.{◌≡◌, ◌≢◌, ℕ, ◌≤◌, ◌<◌, ◌⊎◌, List, [], ◌∷◌, ◌++◌, length, drop}
use Rattle.spa_format.specs.Words.{word_at, header_size}
use Rattle.spa_format.specs.Tree.{string_type, choice_type, Trees, Properties}
use Rattle.spa_format.specs.Pod.{IsText, AreMembers, AreProperties}
use Rattle.spa_format.specs.Faults.{Fault, Short, Text, InvalidType, InvalidChoiceType, MissingChoiceValues, WrongSize, choice_header_size, IsInvalidType, IsWrongSize, LacksValues, Stands}
use Rattle.spa_fixed_sized.specs.declared.fault.Refusal.{Refusal}
use Rattle.spa_fixed_sized.specs.declared.fault.Refusal.TheVariants as refusal
use Rattle.spa_fixed_sized.specs.declared.fault.FaultKind.TheVariants as fault_kind
use Rattle.spa_fixed_sized.specs.declared.fault.DeserializeError.{DeserializeError}
use Rattle.spa_fixed_sized.specs.declared.fault.DeserializeError.TheVariants as error
use Rattle.spa_bodies.specs.Reading.{TakesMemory, MayLackMemory}

-- The refusal is a fault that stands, or is for want of memory, where the fact `memory` holds.
abbrev pub Says : (Fault → Type 0) → Type 0 → Refusal → Type 0
Says stands memory refusal.Short = stands Short
Says stands memory refusal.Text = stands Text
Says stands memory refusal.InvalidType = stands InvalidType
Says stands memory refusal.InvalidChoiceType = stands InvalidChoiceType
Says stands memory refusal.MissingChoiceValues = stands MissingChoiceValues
Says stands memory refusal.WrongSize = stands WrongSize
Says stands memory refusal.OutOfMemory = memory

-- the fault stands in a body of this type, and in no member of it
abbrev pub StandsInBody : ℕ → List ℕ → Fault → Type 0
StandsInBody t b Short = ⊥
StandsInBody t b Text = (t ≡ string_type) × ((s : List ℕ) → IsText s → b ≢ s ++ 0 ∷ [])
StandsInBody t b InvalidType = IsInvalidType t b
StandsInBody t b InvalidChoiceType = (t ≡ choice_type) × (choice_header_size ≤ length b) × (5 ≤ word_at b 0)
StandsInBody t b MissingChoiceValues = (t ≡ choice_type) × LacksValues b
StandsInBody t b WrongSize = IsWrongSize t b

-- the refusal of a body of this type is right
abbrev pub RefusesBody : ℕ → List ℕ → Refusal → Type 0
RefusesBody t b = Says (StandsInBody t b) (TakesMemory t)

-- the fault stands in a member, behind zero or more first members that are pods
abbrev pub StandsInMembers : List ℕ → List ℕ → Fault → Type 0
StandsInMembers b place k =
    (vs : Trees) × (first : List ℕ) × (left : List ℕ) × (b ≡ first ++ left) × AreMembers vs first
    × (left ≢ []) × Stands k place left

-- the fault stands in a property, behind zero or more first properties that are accepted: its key is short, or the fault stands in its value
abbrev pub StandsInProperties : List ℕ → List ℕ → Fault → Type 0
StandsInProperties b place k =
    (ps : Properties) × (first : List ℕ) × (left : List ℕ) × (b ≡ first ++ left) × AreProperties ps first
    × (((k ≡ Short) × (place ≡ left) × (left ≢ []) × (length left < header_size))
    ⊎ ((header_size ≤ length left) × Stands k place (drop header_size left)))

-- the refusal of the pod at the front of the input is right, and its fault stands at this place
abbrev pub RefusesPod : List ℕ → List ℕ → Refusal → Type 0
RefusesPod input place = Says (λ k. Stands k place input) (MayLackMemory input)

-- the public refusal for an inner one at this place
abbrev pub error_of : {I : Type 0} → I → Refusal → DeserializeError I
error_of place refusal.Short = error.Nom (record { input = place; kind = fault_kind.Short })
error_of place refusal.Text = error.Nom (record { input = place; kind = fault_kind.Text })
error_of place refusal.InvalidType = error.InvalidType
error_of place refusal.InvalidChoiceType = error.InvalidChoiceType
error_of place refusal.MissingChoiceValues = error.MissingChoiceValues
error_of place refusal.WrongSize = error.WrongSize
error_of place refusal.OutOfMemory = error.OutOfMemory
