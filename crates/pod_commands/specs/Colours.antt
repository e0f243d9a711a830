-- Texts in colours: docs/TEXT.md, "Colours".
use Rattle.std.specs.Prelude.{◌≡◌, ◌≢◌, ◌||◌, ◌&&◌, ℕ, suc, Bool, false, not, codes, List, [], ◌∷◌, ◌++◌, Option, None, Some, if◌then◌else◌, length, nat_eq}
use Rattle.std.specs.Char.{is_ascii_alphabetic, is_ascii_alphanumeric, is_ascii_digit, is_ascii_hexdigit, is_ascii_uppercase}
use Rattle.std.specs.List.{list_all, list_any}
use Rattle.std.specs.Str.{bytes_eq}
use Rattle.spa_text_commands.specs.Lines.{is_pods}
use Rattle.spa_text_commands.specs.Params.{PrintsParams}
use Rattle.spa_text_commands.specs.Parts.{ShowsPods}
use Rattle.spa_text_commands.specs.Texts.{Prints}
use Rattle.spa_text_commands.specs.declared.selection.Form.{Form}
use Rattle.pod_commands.specs.declared.colours.Colour.{Colour}
use Rattle.pod_commands.specs.declared.colours.Colour.TheVariants.{Name, Quoted, Number}
use Rattle.pod_commands.specs.declared.colours.Colours.{Colours}
use Rattle.pod_commands.specs.declared.colours.Colours.TheVariants.{Off, On}
use Rattle.pod_commands.specs.declared.request.Printing.{Printing}
use Rattle.pod_commands.specs.declared.request.Style.{Style}

-- the escape sequences that begin a colour, and the one that ends it
abbrev pub start_of : Colour → List ℕ
start_of Name = 27 ∷ codes "[34m"
start_of Quoted = 27 ∷ codes "[32m"
start_of Number = 27 ∷ codes "[36m"

abbrev pub reset : List ℕ
reset = 27 ∷ codes "[0m"

-- a piece of a text, as it is or in a colour
abbrev pub piece_in : Option Colour → List ℕ → List ℕ
piece_in None piece = piece
piece_in (Some colour) piece = start_of colour ++ (piece ++ reset)

-- ---- Pieces: texts in quotes, words, and other bytes by themselves

-- a line feed, a quote, and the backslash that escapes one
abbrev pub line_feed : ℕ
line_feed = 10

abbrev pub quote : ℕ
quote = 34

abbrev pub backslash : ℕ
backslash = 92

-- a byte belongs to a word that begins with this one: a letter, a digit, one of . - + and _, or a colon behind a letter
abbrev pub goes_on : (first byte : ℕ) → Bool
goes_on first byte =
    is_ascii_alphanumeric byte || (list_any (λ sign. nat_eq sign byte) (codes ".-+_") || (nat_eq byte 58 && is_ascii_alphabetic first))

-- how many bytes of a word follow its first
abbrev pub word_len : (first : ℕ) → List ℕ → ℕ
word_len first [] = 0
word_len first (x ∷ xs) = if goes_on first x then suc (word_len first xs) else 0

-- how many bytes of a text in quotes follow the quote at its front, up to the next one that isn't escaped, or to the end of the line
abbrev pub quoted_len : (is_escaped : Bool) → List ℕ → ℕ
quoted_len is_escaped [] = 0
quoted_len is_escaped (x ∷ xs) =
    if nat_eq x line_feed then 0
    else (if nat_eq x quote && not is_escaped then 1 else suc (quoted_len (nat_eq x backslash && not is_escaped) xs))

-- how many bytes the first piece takes
abbrev pub piece_len : List ℕ → ℕ
piece_len [] = 0
piece_len (x ∷ xs) = suc (if nat_eq x quote then quoted_len false xs else (if goes_on x x then word_len x xs else 0))

-- ---- Their colours

-- a colon follows, as it follows a key
abbrev pub is_key : (behind : List ℕ) → Bool
is_key [] = false
is_key (x ∷ xs) = nat_eq x 58

-- a number, a byte in hex, or a word of JSON
abbrev pub is_number : (first : ℕ) → (piece : List ℕ) → Bool
is_number first piece =
    (nat_eq first 45 || is_ascii_digit first)
    || (list_all is_ascii_hexdigit piece || list_any (λ word. bytes_eq word piece) (codes "true" ∷ codes "false" ∷ codes "null" ∷ []))

-- the colour of a piece that these bytes follow: names and keys, texts, numbers
abbrev pub colour_of : (piece behind : List ℕ) → Option Colour
colour_of [] behind = None
colour_of (x ∷ xs) behind =
    if nat_eq x quote then Some (if is_key behind then Name else Quoted)
    else (if is_ascii_uppercase x then Some Name else (if is_number x (x ∷ xs) then Some Number else None))

-- A text in colours: its pieces, one behind another, each in its colour.
pub data IsColoured : (text out : List ℕ) → Type 0 where
  nothing : IsColoured [] []
  further : (piece behind out : List ℕ) → piece ≢ [] → length piece ≡ piece_len (piece ++ behind) → IsColoured behind out →
      IsColoured (piece ++ behind) (piece_in (colour_of piece behind) piece ++ out)

-- a text, in colours if it is to have them
abbrev pub InColours : Colours → (text out : List ℕ) → Type 0
InColours Off text out = out ≡ text
InColours On text out = IsColoured text out

-- pods themselves are printed without colours
abbrev pub colours_of : Form → Colours → Colours
colours_of form colours = if is_pods form then Off else colours

-- the texts of pods, in this style
abbrev pub PrintsIn : Style → (pods out : List ℕ) → Type 0
PrintsIn style pods out = (text : List ℕ) × Prints style.layout pods text × InColours style.colours text out

-- what pw-dump prints of pods, in colours if it is to have them
abbrev pub DumpsIn : Colours → (pods out : List ℕ) → Type 0
DumpsIn colours pods out = (text : List ℕ) × PrintsParams pods text × InColours colours text out

-- what is printed of pods, which so many pods and bytes of the input stand before, in colours if it is to have them; so many
-- of them are refused
abbrev pub ShowsIn : Printing → (count place : ℕ) → (pods out : List ℕ) → (refused : ℕ) → Type 0
ShowsIn printing count place pods out refused =
    (text : List ℕ) × ShowsPods printing.printout count place pods text refused × InColours (colours_of printing.printout.form printing.colours) text out
