-- Dictionaries as lists of pairs: docs/FORMAT.md, "Dictionaries".
use Rattle.std.specs.Prelude.{ℕ, Bool, ◌&&◌, List, map, Option}
use Rattle.std.specs.List.{filter, find}
use Rattle.std.specs.Option.{option_map}
use Rattle.std.specs.Str.{is_utf8, bytes_eq}
use Rattle.std.specs.Borrow.{Bor}

-- a key and a value, as bytes
abbrev pub Pair : Type 0
Pair = List ℕ × List ℕ

-- the bytes of a pair of slices, or of texts
abbrev pub pair_of : Bor (List ℕ) × Bor (List ℕ) → Pair
pair_of p = (p.0.now, p.1.now)

-- the bytes of each of these pairs, in order
abbrev pub pairs_of : List (Bor (List ℕ) × Bor (List ℕ)) → List Pair
pairs_of items = map pair_of items

-- both key and value are texts
abbrev pub is_text_pair : Pair → Bool
is_text_pair p = is_utf8 p.0 && is_utf8 p.1

-- the pairs whose key and value are both texts
abbrev pub text_pairs : List Pair → List Pair
text_pairs ps = filter is_text_pair ps

-- the keys that are texts
abbrev pub text_keys : List Pair → List (List ℕ)
text_keys ps = filter is_utf8 (map (λ p. p.0) ps)

-- the values that are texts
abbrev pub text_values : List Pair → List (List ℕ)
text_values ps = filter is_utf8 (map (λ p. p.1) ps)

-- the value of the first pair with this key; None where no pair has it
abbrev pub first_value : List ℕ → List Pair → Option (List ℕ)
first_value key ps = option_map (λ p. p.1) (find (λ p. bytes_eq p.0 key) ps)
