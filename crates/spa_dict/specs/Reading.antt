-- The answers of a look-up: docs/FORMAT.md, "Dictionaries".
use Rattle.std.specs.Prelude.{◌≡◌, ℕ, List, Option, Some, None, Result, MatchOption, MatchResult}
use Rattle.spa_dict.specs.Pairs.{Pair, pairs_of}
use Rattle.spa_dict.specs.declared.dict.DictRef.{DictRef}
use Rattle.spa_dict.specs.declared.parse.ParseValueError.{ParseValueError}

-- the pairs of a dictionary
abbrev pub pairs : DictRef → List Pair
pairs dict = pairs_of dict.items.now

-- what a reading of a text answers: the value that the text reads as, or, where it reads as none, the text back with the
-- name of the type
abbrev pub IsAnswerFor : {T : Type 0} → List ℕ → (List ℕ → Option T → Type 0) → List ℕ → Result T ParseValueError → Type 0
IsAnswerFor name reads text answer =
    MatchResult answer (λ v. reads text (Some v))
    (λ e. reads text None × (e.text.now ≡ text) × (e.type_name.now ≡ name))

-- the answer for the text of a value that may be missing: there is one exactly where there is a value
abbrev pub IsReadingOf : {T : Type 0} → List ℕ → (List ℕ → Option T → Type 0) → Option (List ℕ) → Option (Result T ParseValueError) → Type 0
IsReadingOf name reads value found =
    MatchOption value (found ≡ None) (λ text. MatchOption found ⊥ (IsAnswerFor name reads text))
