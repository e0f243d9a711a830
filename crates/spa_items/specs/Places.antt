-- How many bytes are before a property or a member: docs/FORMAT.md, "Items".
use Rattle.std.specs.Prelude.{ℕ, zero, suc, ◌+◌, List, [], ◌∷◌, length, Option, Some, None, if◌then◌else◌, nat_eq}
use Rattle.std.specs.Option.{option_map}
use Rattle.spa_format.specs.Words.{word_at}

-- how many bytes are before the first of these properties with the key; None where no property has it
abbrev pub place_of_key : ℕ → List (List ℕ) → Option ℕ
place_of_key key [] = None
place_of_key key (p ∷ ps) = if nat_eq (word_at p 0) key then Some 0 else option_map (λ n. length p + n) (place_of_key key ps)

-- how many bytes are before the pod of this number, counted from 0; None where there are fewer pods
abbrev pub place_of_number : ℕ → List (List ℕ) → Option ℕ
place_of_number n [] = None
place_of_number zero (p ∷ ps) = Some 0
place_of_number (suc n) (p ∷ ps) = option_map (λ m. length p + m) (place_of_number n ps)
