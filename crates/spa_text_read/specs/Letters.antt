-- Letters as people are shown them: docs/TEXT.md, "What show writes".
use Rattle.std.specs.Prelude.{ℕ, ◌==◌, ◌/◌, ◌%◌, ◌||◌, List, [], ◌∷◌, ◌++◌, codes, flat_map, if◌then◌else◌}
use Rattle.std.specs.Char.{digit_char, encode_utf8, is_control}
use Rattle.std.specs.Str.{chars}
use Rattle.json.specs.Ascii.{backslash, quote}

-- a quote and a backslash stand behind a backslash; a control character is four hexadecimal digits of its number
abbrev pub shown_letter : ℕ → List ℕ
shown_letter c =
    if (c == quote) || (c == backslash) then backslash ∷ c ∷ []
    else (if is_control c then backslash ∷ codes "u00" ++ (digit_char (c / 16) ∷ digit_char (c % 16) ∷ []) else encode_utf8 c)

-- a text, letter by letter
abbrev pub shown_text : List ℕ → List ℕ
shown_text s = flat_map shown_letter (chars s)
