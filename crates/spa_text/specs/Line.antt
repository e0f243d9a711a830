-- The text that is printed: docs/TEXT.md, "What a program has to know".
use Rattle.std.specs.Prelude.{◌≡◌, ◌≢◌, ⊤, ℕ, List, [], ◌∷◌, true}
use Rattle.std.specs.List.{list_all}
use Rattle.json.specs.Align.{is_good}
use Rattle.json.specs.Token.{Token}

-- no line ends in these bytes
abbrev pub HasNoEnd : List ℕ → Type 0
HasNoEnd [] = ⊤
HasNoEnd (x ∷ xs) = (x ≢ 10) × HasNoEnd xs

-- tokens of a text that is JSON up to its end
abbrev pub AreGood : List Token → Type 0
AreGood ts = list_all is_good ts ≡ true
