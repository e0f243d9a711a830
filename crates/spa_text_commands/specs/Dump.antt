-- Bytes in hex, sixteen to a line, as `xxd -g 1` prints them: docs/TEXT.md, "What `show` writes".
use Rattle.std.specs.Prelude.{◌+◌, ◌-◌, ◌/◌, ◌^◌, ◌&&◌, ℕ, suc, zero, List, [], ◌∷◌, ◌++◌, length, map, take, drop, if◌then◌else◌, nat_le, nat_lt}
use Rattle.std.specs.Int.{to_be_bytes, w32, w64}
use Rattle.hex.specs.Hex.{encode_lower}

-- a byte's place in the input by eight digits, by sixteen where eight don't do
abbrev pub place_text : ℕ → List ℕ
place_text place = if nat_lt place (2 ^ 32) then encode_lower (to_be_bytes w32 place) else encode_lower (to_be_bytes w64 place)

-- each byte behind a space
abbrev pub spaced : List ℕ → List ℕ
spaced [] = []
spaced (b ∷ bs) = 32 ∷ (encode_lower (b ∷ []) ++ spaced bs)

-- blanks for so many bytes that a line has too few, and two more
abbrev pub blanks : ℕ → List ℕ
blanks zero = 32 ∷ 32 ∷ []
blanks (suc n) = 32 ∷ 32 ∷ 32 ∷ blanks n

-- a byte's letter where it is one of ASCII or a blank, else a dot
abbrev pub letter_of : ℕ → ℕ
letter_of b = if nat_le 32 b && nat_le b 126 then b else 46

-- a line of bytes behind the place of the first of them, and then their letters
abbrev pub row_line : (place : ℕ) → List ℕ → List ℕ
row_line place row = place_text place ++ (58 ∷ (spaced row ++ (blanks (16 - length row) ++ (map letter_of row ++ (10 ∷ [])))))

-- so many lines of sixteen bytes, the last one maybe of fewer
abbrev pub rows : ℕ → (place : ℕ) → List ℕ → List ℕ
rows zero place bytes = []
rows (suc n) place bytes = row_line place (take 16 bytes) ++ rows n (place + 16) (drop 16 bytes)

-- all of them
abbrev pub hex_lines : (place : ℕ) → List ℕ → List ℕ
hex_lines place bytes = rows ((length bytes + 15) / 16) place bytes
