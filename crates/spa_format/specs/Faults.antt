-- Which faults stand in an input that isn't accepted, and where: docs/FORMAT.md, "Faults".
use Rattle.std.specs.Prelude.{◌≡◌, ◌≢◌, ℕ, ◌+◌, ◌*◌, ◌<◌, ◌≤◌, ◌⊎◌, List, [], ◌∷◌, ◌++◌, length, drop}
use Rattle.spa_format.specs.Words.{word_at, body_of, header_size}
use Rattle.spa_format.specs.Kind.{Kind, type_number, body_size}
use Rattle.spa_format.specs.Tree.{Shape, shape_number, string_type, array_type, struct_type, object_type, pointer_type, choice_type, Trees, Properties}
use Rattle.spa_format.specs.Pod.{IsText, least_count, AreMembers, AreProperties}
use Rattle.spa_format.specs.Front.{HasFront}

-- the faults that a read of any value, without a type asked for, may report
pub data Fault : Type 0 where
  Short : Fault
  Text : Fault
  InvalidType : Fault
  InvalidChoiceType : Fault
  MissingChoiceValues : Fault
  WrongSize : Fault

-- how many bytes of a choice's body come before its values: shape, flags, child size and child type
abbrev pub choice_header_size : ℕ
choice_header_size = 16

-- a type number that no value has
abbrev pub IsUnknownType : ℕ → Type 0
IsUnknownType t = (t ≡ 0) ⊎ (t ≡ 16) ⊎ (20 ≤ t)

-- A type number of no value: the pod's own, or that of an array's elements, or that of a choice's values.
pub data IsInvalidType (t : ℕ) (b : List ℕ) : Type 0 where
  no_type : IsUnknownType t → IsInvalidType t b
  of_elements : t ≡ array_type → header_size ≤ length b → ((k : Kind) → word_at b 4 ≢ type_number k) → IsInvalidType t b
  of_values : t ≡ choice_type → choice_header_size ≤ length b → ((k : Kind) → 0 < body_size k → word_at b 12 ≢ type_number k) → IsInvalidType t b

-- a body that begins like an array's with elements of this kind, but whose child size isn't that of the kind, or whose length isn't that of
-- a whole number of elements
pub record IsWrongArray (k : Kind) (b : List ℕ) : Type 0 where
  pub header : header_size ≤ length b
  pub child_type : word_at b 4 ≡ type_number k
  pub wrong : (word_at b 0 ≢ body_size k) ⊎ ((n : ℕ) → length b ≢ header_size + n * body_size k)

-- a body of the wrong length for this type number, or with the wrong child size for an array or a choice
pub data IsWrongSize (t : ℕ) (b : List ℕ) : Type 0 where
  of_fixed : (k : Kind) → t ≡ type_number k → length b ≢ body_size k → IsWrongSize t b
  of_array : (k : Kind) → t ≡ array_type → IsWrongArray k b → IsWrongSize t b
  of_choice : (k : Kind) → t ≡ choice_type → 0 < body_size k → IsWrongArray k (drop header_size b) → IsWrongSize t b
  of_pointer : t ≡ pointer_type → length b ≢ 12 → length b ≢ 16 → IsWrongSize t b
  short_array : t ≡ array_type → length b < header_size → IsWrongSize t b
  short_choice : t ≡ choice_type → length b < choice_header_size → IsWrongSize t b
  short_object : t ≡ object_type → length b < header_size → IsWrongSize t b

-- the body of a choice that holds fewer whole values than its shape needs
pub record LacksValues (b : List ℕ) : Type 0 where
  pub header : choice_header_size ≤ length b
  pub shape : Shape
  pub kind : Kind
  pub its_shape : word_at b 0 ≡ shape_number shape
  pub child_size : word_at b 8 ≡ body_size kind
  pub child_type : word_at b 12 ≡ type_number kind
  pub few : length b < choice_header_size + least_count shape * body_size kind

-- the fault stands at the front of the input itself
abbrev pub StandsAtFront : Fault → List ℕ → Type 0
StandsAtFront Short b = ¬ (HasFront b)
StandsAtFront Text b = HasFront b × (word_at b 4 ≡ string_type) × ((s : List ℕ) → IsText s → body_of b ≢ s ++ 0 ∷ [])
StandsAtFront InvalidType b = HasFront b × IsInvalidType (word_at b 4) (body_of b)
StandsAtFront InvalidChoiceType b = HasFront b × (word_at b 4 ≡ choice_type) × (choice_header_size ≤ length (body_of b)) × (5 ≤ word_at (body_of b) 0)
StandsAtFront MissingChoiceValues b = HasFront b × (word_at b 4 ≡ choice_type) × LacksValues (body_of b)
StandsAtFront WrongSize b = HasFront b × IsWrongSize (word_at b 4) (body_of b)

-- The fault stands at a place in the input: at its front, or in the struct or object at its front, behind zero or more first members or
-- properties that are pods, at any nesting depth. The place is given by the bytes that are left from there to the end of the body around it,
-- and at the front by the input itself.
pub data Stands (k : Fault) (place : List ℕ) : List ℕ → Type 0 where
  at_front : (b : List ℕ) → place ≡ b → StandsAtFront k b → Stands k place b
  in_member : (b : List ℕ) (vs : Trees) (first left : List ℕ) → HasFront b → word_at b 4 ≡ struct_type → body_of b ≡ first ++ left → AreMembers vs first → left ≢ [] → Stands k place left → Stands k place b
  in_key : (b : List ℕ) (ps : Properties) (first : List ℕ) → HasFront b → word_at b 4 ≡ object_type → header_size ≤ length (body_of b) → drop header_size (body_of b) ≡ first ++ place → AreProperties ps first → place ≢ [] → length place < header_size → k ≡ Short → Stands k place b
  in_property : (b : List ℕ) (ps : Properties) (first left : List ℕ) → HasFront b → word_at b 4 ≡ object_type → header_size ≤ length (body_of b) → drop header_size (body_of b) ≡ first ++ left → AreProperties ps first → header_size ≤ length left → Stands k place (drop header_size left) → Stands k place b
