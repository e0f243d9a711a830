-- Bytes written as hexadecimal digits, and rows of dumps: docs/TEXT.md, "Bytes in hexadecimal".
use Rattle.std.specs.Prelude.{◌≡◌, ◌≢◌, ◌+◌, ◌-◌, ◌*◌, ◌==◌, ◌&&◌, ◌||◌, ⊤, ℕ, Bool, true, false, Option, Some, None, List, [], ◌∷◌, ◌++◌, drop, length, if◌then◌else◌, nat_le}
use Rattle.std.specs.List.{prefix_len}
use Rattle.hex.specs.Hex.{hex_digit_value, is_hex_digit}
use Rattle.spa_text_commands.specs.Texts.{is_space}
use Rattle.spa_text_commands.specs.declared.answer.Failure.{Failure}
use Rattle.spa_text_commands.specs.declared.answer.Failure.TheVariants.{Line, OutOfMemory}

-- the first line, and what follows its line feed
abbrev pub first_line : List ℕ → List ℕ
first_line [] = []
first_line (x ∷ xs) = if x == 10 then [] else x ∷ first_line xs

abbrev pub behind_line : List ℕ → List ℕ
behind_line [] = []
behind_line (x ∷ xs) = if x == 10 then xs else behind_line xs

-- what follows white space
abbrev pub behind_space : List ℕ → List ℕ
behind_space text = drop (prefix_len is_space text) text

-- how many digits a text begins with, and what follows them
abbrev pub digit_count : List ℕ → ℕ
digit_count text = prefix_len is_hex_digit text

abbrev pub behind_digits : List ℕ → List ℕ
behind_digits text = drop (digit_count text) text

-- an offset without a colon has six digits or more
abbrev pub begins_with_offset : List ℕ → Bool
begins_with_offset text = nat_le 6 (digit_count text)

-- what follows a colon at the front, where one is
abbrev pub behind_colon : List ℕ → Option (List ℕ)
behind_colon [] = None
behind_colon (x ∷ xs) = if x == 58 then Some xs else None

-- where the bytes of a row begin, and whether two spaces end them, as in a row of `xxd`, whose offset ends in a colon
abbrev pub bytes_behind : (offsets : Bool) → List ℕ → Option (List ℕ) → Bool × List ℕ
bytes_behind offsets row (Some bytes) = (true, behind_space bytes)
bytes_behind offsets row None = (false, if offsets && begins_with_offset row then behind_digits row else row)

abbrev pub bytes_in : (offsets : Bool) → List ℕ → Bool × List ℕ
bytes_in offsets row = bytes_behind offsets row (behind_colon (behind_digits row))

-- white space and quotes may stand between two bytes
abbrev pub is_between : ℕ → Bool
is_between x = is_space x || x == 34

-- what follows from here on is letters: behind `|`, or behind two spaces where these end the bytes
abbrev pub begins_letters : (spaces_end : Bool) → (x y : ℕ) → Bool
begins_letters spaces_end x y = x == 124 || (spaces_end && (x == 32 && y == 32))

-- what may be the last byte of a row, other than a digit
abbrev pub ends_row : ℕ → Bool
ends_row x = x == 124 || is_between x

-- a byte, and those behind it, where two digits say it; else nothing more, and what is left
abbrev pub with_byte : Option ℕ → Option ℕ → (left : List ℕ) → List ℕ × List ℕ → List ℕ × List ℕ
with_byte (Some high) (Some low) left more = ((high * 16 + low) ∷ more.0, more.1)
with_byte _ _ left more = ([], left)

-- the bytes that digits say, two of them each, up to letters; and what is left from where there is no byte
abbrev pub said : (spaces_end : Bool) → List ℕ → List ℕ × List ℕ
said spaces_end [] = ([], [])
said spaces_end (x ∷ []) = if ends_row x then ([], []) else ([], x ∷ [])
said spaces_end (x ∷ y ∷ more) =
    if begins_letters spaces_end x y then ([], [])
    else if is_between x then said spaces_end (y ∷ more)
    else with_byte (hex_digit_value x) (hex_digit_value y) (x ∷ y ∷ more) (said spaces_end more)

-- those of a line, with white space before it
abbrev pub said_in : (offsets : Bool) → List ℕ → List ℕ × List ℕ
said_in offsets line = let row = bytes_in offsets (behind_space line) in said row.0 row.1

-- some first lines, so many, say these bytes, and these lines are left
pub data BeginLines (offsets : Bool) (input : List ℕ) : (lines : ℕ) → (bytes left : List ℕ) → Type 0 where
  no_line : BeginLines offsets input 0 [] input
  one_line : (lines : ℕ) (bytes left : List ℕ) → BeginLines offsets input lines bytes left → left ≢ [] →
      (said_in offsets (first_line left)).1 ≡ [] →
      BeginLines offsets input (lines + 1) (bytes ++ (said_in offsets (first_line left)).0) (behind_line left)

-- rows have offsets without a colon, as those of `hexdump -C` and `od`: one is in the first line, and behind it a byte of two digits
abbrev pub first_has_offset : List ℕ → Bool
first_has_offset input =
    let row = behind_space (first_line input) in begins_with_offset row && digit_count (behind_space (behind_digits row)) == 2

-- the input is written in hexadecimal, and says these bytes
abbrev pub ReadsHexadecimal : (input out : List ℕ) → Type 0
ReadsHexadecimal input out = (lines : ℕ) × BeginLines (first_has_offset input) input lines out []

-- behind some first lines, of which this one is the next, stands one with no byte at this column; both count from 1
pub record HasNoByteAt (input : List ℕ) (line column : ℕ) : Type 0 where
  pub lines : ℕ
  pub bytes : List ℕ
  pub left : List ℕ
  pub begin : BeginLines (first_has_offset input) input lines bytes left
  pub refused : (said_in (first_has_offset input) (first_line left)).1 ≢ []
  pub its_line : line ≡ lines + 1
  pub its_column : column ≡ length (first_line left) - length (said_in (first_has_offset input) (first_line left)).1 + 1

-- why an input isn't read as hexadecimal
abbrev pub RefusesHexadecimal : List ℕ → Failure → Type 0
RefusesHexadecimal input (Line line column kind words path misfit) = HasNoByteAt input line column
RefusesHexadecimal input OutOfMemory = ⊤
RefusesHexadecimal input _ = ⊥
