-- The answers and refusals of the readers of the bodies of arrays and choices: docs/FORMAT.md, "Faults".
use Rattle.std.specs.Prelude.{◌≡◌, ◌<◌, ◌≤◌, ◌*◌, ℕ, List, length, drop, ⊤}
use Rattle.spa_format.specs.Words.{word_at, header_size}
use Rattle.spa_format.specs.Kind.{Kind, type_number, body_size, Fixed}
use Rattle.spa_format.specs.Tree.{Shape, shape_number}
use Rattle.spa_format.specs.Normal.{kept_flags}
use Rattle.spa_format.specs.Pod.{IsBody, least_count}
use Rattle.spa_format.specs.Faults.{IsWrongArray, LacksValues, choice_header_size}
use Rattle.spa_utils.specs.declared.choice.ChoiceEnum.{ChoiceEnum}
use Rattle.spa_fixed_sized.specs.Choices.{choice_enum_tree}
use Rattle.spa_fixed_sized.specs.declared.fault.Refusal.{Refusal}
use Rattle.spa_fixed_sized.specs.declared.fault.Refusal.TheVariants.{Short, Text, InvalidType, InvalidChoiceType, MissingChoiceValues, WrongSize, OutOfMemory}

-- the bytes are whole bodies of this size, without remainder
pub record AreWhole (size : ℕ) (bodies : List ℕ) : Type 0 where
  pub many : ℕ
  pub count : length bodies ≡ many * size

-- the refusal of an array: `WrongSize`, where the fact holds, or for want of memory
abbrev pub RefusesArray : Type 0 → Refusal → Type 0
RefusesArray wrong Short = ⊥
RefusesArray wrong Text = ⊥
RefusesArray wrong InvalidType = ⊥
RefusesArray wrong InvalidChoiceType = ⊥
RefusesArray wrong MissingChoiceValues = ⊥
RefusesArray wrong WrongSize = wrong
RefusesArray wrong OutOfMemory = ⊤

-- the body of a choice whose sizes are right: two words, and the body of an array with these elements
pub record IsOpened (k : Kind) (elements b : List ℕ) : Type 0 where
  pub header : choice_header_size ≤ length b
  pub child_size : word_at b 8 ≡ body_size k
  pub child_type : word_at b 12 ≡ type_number k
  pub behind : elements ≡ drop choice_header_size b

-- The bytes of the elements are those of the values of a choice of this shape: each body of such a choice with these elements has these values.
pub record ReadsAs {T : Type 0} (h : Shape) (k : Kind) (f : T → Fixed) (elements : List ℕ) (values : ChoiceEnum T) : Type 0 where
  pub says : (b : List ℕ) (flags : ℕ) → IsOpened k elements b → word_at b 0 ≡ shape_number h → flags ≡ kept_flags h (word_at b 4) → IsBody (choice_enum_tree k f flags values) b

-- the refusal of the values of a choice: `MissingChoiceValues`, where there are fewer than the shape needs, or for want of memory
abbrev pub RefusesValues : Shape → ℕ → List ℕ → Refusal → Type 0
RefusesValues h size elements Short = ⊥
RefusesValues h size elements Text = ⊥
RefusesValues h size elements InvalidType = ⊥
RefusesValues h size elements InvalidChoiceType = ⊥
RefusesValues h size elements MissingChoiceValues = length elements < least_count h * size
RefusesValues h size elements WrongSize = ⊥
RefusesValues h size elements OutOfMemory = ⊤

-- the least shape word that no shape has
abbrev pub shape_limit : ℕ
shape_limit = 5

-- The refusal of the body of a choice over this kind: for its shape word, for too few values, for its sizes, or for want of memory.
abbrev pub RefusesChoice : Kind → List ℕ → Refusal → Type 0
RefusesChoice k b Short = ⊥
RefusesChoice k b Text = ⊥
RefusesChoice k b InvalidType = ⊥
RefusesChoice k b InvalidChoiceType = shape_limit ≤ word_at b 0
RefusesChoice k b MissingChoiceValues = LacksValues b
RefusesChoice k b WrongSize = IsWrongArray k (drop header_size b)
RefusesChoice k b OutOfMemory = ⊤
