-- Numbers and bytes in a text: docs/TEXT.md, "Numbers".
use Rattle.std.specs.Prelude.{ℕ, ◌^◌, List, [], ◌∷◌, length, Bool, ◌&&◌, if◌then◌else◌, nat_lt, ◌==◌, ℤ, Option, Some, None, Result, Ok, Err, option_map, option_and_then}
use Rattle.std.specs.Int.{w32, w64, from_be_bytes}
use Rattle.std.specs.Int.Signed.{mag}
use Rattle.std.specs.Str.{all_ascii_digits}
use Rattle.std.specs.Str.Parse.{digits_value, signed_digits_value, without_leading_plus, without_leading_sign}
use Rattle.std.specs.Float.{Float, Format, binary32, binary64, float_is_finite}
use Rattle.std.specs.Float.Ieee.{to_bits}
use Rattle.std.specs.Float.Parse.{parse_float}
use Rattle.hex.specs.Hex.{decode_sized}
use Rattle.hex.specs.declared.error.FromHexError.{FromHexError}

-- one decimal digit or more, and nothing else
abbrev pub are_digits : List ℕ → Bool
are_digits s = nat_lt 0 (length s) && all_ascii_digits s

-- the number, where the test holds
abbrev pub number_where : {A : Type 0} → Bool → A → Option A
number_where b n = if b then Some n else None

-- the number below 2 ^ 32 that the text is
unfoldable pub unsigned_number : List ℕ → Option ℕ
unsigned_number s =
    number_where (are_digits (without_leading_plus s) && nat_lt (digits_value 10 (without_leading_plus s)) (2 ^ 32))
    (digits_value 10 (without_leading_plus s))

-- the number of so many bits, and one for its sign, that the text is
unfoldable pub signed_number : ℕ → List ℕ → Option ℤ
signed_number k s =
    number_where (are_digits (without_leading_sign s) && nat_lt (mag (signed_digits_value 10 s)) (2 ^ k))
    (signed_digits_value 10 s)

abbrev pub ok_of : {A : Type 0} → Result A FromHexError → Option A
ok_of (Ok x) = Some x
ok_of (Err e) = None

-- what follows `0x` at the front of the text
unfoldable pub behind_0x : List ℕ → Option (List ℕ)
behind_0x [] = None
behind_0x (a ∷ []) = None
behind_0x (a ∷ b ∷ digits) = number_where (a == 48 && b == 120) digits

-- the bytes of so many pairs of hex digits, and of no others
abbrev pub digit_bytes : ℕ → Option (List ℕ) → Option (List ℕ)
digit_bytes n None = None
digit_bytes n (Some digits) = ok_of (decode_sized digits n)

-- the number whose eight digits stand behind `0x`, the highest first, and that of sixteen
unfoldable pub word_bits : List ℕ → Option ℕ
word_bits s = option_map (from_be_bytes w32) (digit_bytes 4 (behind_0x s))

unfoldable pub wide_bits : List ℕ → Option ℕ
wide_bits s = option_map (from_be_bytes w64) (digit_bytes 8 (behind_0x s))

-- the bits of a finite float
abbrev pub finite_bits : Format → Float → Option ℕ
finite_bits f x = if float_is_finite x then Some (to_bits f x) else None

-- the bits of the float that the digits are nearest to, where it is finite
unfoldable pub float_digits : List ℕ → Option ℕ
float_digits s = option_and_then (finite_bits binary32) (parse_float binary32 s)

unfoldable pub double_digits : List ℕ → Option ℕ
double_digits s = option_and_then (finite_bits binary64) (parse_float binary64 s)
