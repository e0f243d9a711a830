-- Where a text ends among others, and where a byte of it stands: docs/TEXT.md, "What a program has to know".
use Rattle.std.specs.Prelude.{◌≡◌, ◌≢◌, ◌+◌, ◌-◌, ◌==◌, ◌&&◌, ◌||◌, if◌then◌else◌, ℕ, List, [], ◌∷◌}
use Rattle.json.specs.Ascii.{quote, backslash, open_brace, close_brace, open_bracket, close_bracket}

-- a byte stands outside of strings, in one, or behind a backslash in one
pub data Place : Type 0 where
  outside : Place
  within : Place
  escaped : Place

-- the place behind a byte; a line feed ends a string, which none has
abbrev pub place_behind : Place → ℕ → Place
place_behind outside x = if x == quote then within else outside
place_behind within x = if x == quote || x == 10 then outside else if x == backslash then escaped else within
place_behind escaped x = if x == 10 then outside else within

-- how many brackets are open behind a byte there, of so many before it
abbrev pub open_behind : Place → ℕ → ℕ → ℕ
open_behind outside x n =
    if x == open_brace || x == open_bracket then n + 1 else if x == close_brace || x == close_bracket then n - 1 else n
open_behind within x n = n
open_behind escaped x n = n

-- the text at the front ends at the first line feed at which no bracket is open, or where the bytes do
abbrev pub first_text : Place → ℕ → List ℕ → List ℕ
first_text p n [] = []
first_text p n (x ∷ xs) = if x == 10 && n == 0 then [] else x ∷ first_text (place_behind p x) (open_behind p x n) xs

abbrev pub behind_text : Place → ℕ → List ℕ → List ℕ
behind_text p n [] = []
behind_text p n (x ∷ xs) = if x == 10 && n == 0 then xs else behind_text (place_behind p x) (open_behind p x n) xs

-- the bytes begin with this text, and these follow its end
pub record BeginsText (bytes text others : List ℕ) : Type 0 where
  pub some : bytes ≢ []
  pub is_first : text ≡ first_text outside 0 bytes
  pub is_behind : others ≡ behind_text outside 0 bytes

-- the line behind these bytes, the first of which stands in this one
abbrev pub line_behind : ℕ → List ℕ → ℕ
line_behind n [] = n
line_behind n (x ∷ xs) = line_behind (if x == 10 then n + 1 else n) xs

-- the column behind them
abbrev pub column_behind : ℕ → List ℕ → ℕ
column_behind n [] = n
column_behind n (x ∷ xs) = column_behind (if x == 10 then 1 else n + 1) xs
