-- Where pods plausibly begin in damaged bytes: docs/TEXT.md, "A damaged recording".
use Rattle.std.specs.Prelude.{◌≡◌, ◌≤◌, ◌<◌, ◌%◌, ◌⊎◌, ℕ, List, length, drop}
use Rattle.spa_format.specs.Fixation.{walk_size}
use Rattle.spa_format.specs.Front.{HasFront}
use Rattle.spa_format.specs.Tree.{struct_type}
use Rattle.spa_format.specs.Walk.{HasObject, properties_of, walk_at_most}
use Rattle.spa_format.specs.Words.{body_of, header_size, word_at}

-- the first n pods of these bytes, each with k bytes before it, are whole, or all pods up to the end, where these are fewer
abbrev pub AreWholeFirst : (n k : ℕ) → List ℕ → Type 0
AreWholeFirst n k b = (walk_size (walk_at_most n k b) ≡ length b) ⊎ (length (walk_at_most n k b) ≡ n)

-- how many pods inside of a pod are looked at
abbrev pub looked_at : ℕ
looked_at = 64

-- the types of objects of PipeWire's parameters: 262145, which is 0x40001 (`SPA_TYPE_OBJECT_PropInfo`), and those that follow it, below 0x41000
abbrev pub IsParameter : ℕ → Type 0
IsParameter type = (262145 ≤ type) × (type < 266240)

-- A pod plausibly begins these bytes: a whole struct whose first members are whole, or a whole object of a parameter's type whose first properties are.
pub data IsPlausible (b : List ℕ) : Type 0 where
  a_struct : HasFront b → word_at b 4 ≡ struct_type → AreWholeFirst looked_at 0 (body_of b) → IsPlausible b
  an_object : HasObject b → IsParameter (word_at b header_size) → AreWholeFirst looked_at header_size (properties_of b) → IsPlausible b

-- none begins at a multiple of 8 from one byte on and before another
abbrev pub IsNoneBetween : (input : List ℕ) → (from end : ℕ) → Type 0
IsNoneBetween input from end = (n : ℕ) → from ≤ n → n < end → n % 8 ≡ 0 → ¬ (IsPlausible (drop n input))

-- from this byte on the first one begins at that byte
pub record IsNextPlausible (input : List ℕ) (from at : ℕ) : Type 0 where
  pub behind : from ≤ at
  pub aligned : at % 8 ≡ 0
  pub plausible : IsPlausible (drop at input)
  pub first : IsNoneBetween input from at

-- from this byte on none begins
abbrev pub IsNoneBehind : (input : List ℕ) → (from : ℕ) → Type 0
IsNoneBehind input from = (n : ℕ) → from ≤ n → n % 8 ≡ 0 → ¬ (IsPlausible (drop n input))
