-- Result codes: docs/FORMAT.md, "Result codes".
use Rattle.std.specs.Prelude.{ℕ, ◌+◌, ◌/◌, ◌%◌, ◌^◌, ◌==◌, ℤ, pos, Bool, if◌then◌else◌, int_lt, unsigned_abs}
use Rattle.std.specs.Int.{cast_unsigned, w32}

-- the top two of a number's 32 bits are 01
abbrev pub is_asynchronous : ℤ → Bool
is_asynchronous code = cast_unsigned w32 code / 2 ^ 30 == 1

-- the low 30 of a number's 32 bits
abbrev pub low_bits : ℤ → ℕ
low_bits number = cast_unsigned w32 number % 2 ^ 30

-- the asynchronous code of a sequence number: bit 30 over its low 30 bits
abbrev pub async_code : ℤ → ℤ
async_code seq = pos (2 ^ 30 + low_bits seq)

-- what a code can mean: an error by its number, a call that is done, or one that will be done later
pub data Meaning : Type 0 where
  failed : ℕ → Meaning
  done : ℤ → Meaning
  later : ℤ → Meaning

-- a code below 0 is the error of its magnitude; any other is done later where its top two bits say so
abbrev pub meaning_of : ℤ → Meaning
meaning_of code =
    if int_lt code (pos 0) then failed (unsigned_abs code) else (if is_asynchronous code then later code else done code)
