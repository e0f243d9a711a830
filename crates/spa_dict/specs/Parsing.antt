-- The value as which a text reads: docs/FORMAT.md, "Dictionaries".
use Rattle.std.specs.Prelude.{◌≡◌, ℕ, ◌<◌, ◌^◌, ◌⊎◌, ◌↔◌, IsTrue, List, Option, SomeIff, IsSomeAnd, ℤ, pos, Bool, codes, FitsSigned}
use Rattle.std.specs.Str.Parse.{IsNumeral, digits_value, signed_digits_value, without_leading_plus, without_leading_sign}
use Rattle.std.specs.Int.{Width, w32}

-- ---- numbers

-- one decimal digit or more behind an optional plus, whose number has at most that many bits
abbrev pub IsUnsignedText : ℕ → List ℕ → Type 0
IsUnsignedText bits text = IsNumeral 10 (without_leading_plus text) × (digits_value 10 (without_leading_plus text) < 2 ^ bits)

-- the number that such a text writes
abbrev pub unsigned_of : List ℕ → ℕ
unsigned_of text = digits_value 10 (without_leading_plus text)

-- one decimal digit or more behind an optional plus or minus, whose number is one of a signed type of that width
abbrev pub IsSignedText : Width → List ℕ → Type 0
IsSignedText w text = IsNumeral 10 (without_leading_sign text) × FitsSigned w (signed_digits_value 10 text)

-- the number that such a text writes
abbrev pub signed_of : List ℕ → ℤ
signed_of text = signed_digits_value 10 text

-- an answer is there exactly where the text is a number of the type, and it is that number
abbrev pub ReadsUnsigned : ℕ → List ℕ → Option ℕ → Type 0
ReadsUnsigned bits text answer = SomeIff answer (IsUnsignedText bits text) (unsigned_of text)

abbrev pub ReadsSigned : Width → List ℕ → Option ℤ → Type 0
ReadsSigned w text answer = SomeIff answer (IsSignedText w text) (signed_of text)

-- ---- truth values

-- the text `true`, or a text of the number 1 in 32 bits
abbrev pub IsTrueText : List ℕ → Type 0
IsTrueText text = (text ≡ codes "true") ⊎ (IsSignedText w32 text × (signed_of text ≡ pos 1))

-- there is always an answer, and it is true exactly for such texts
abbrev pub ReadsBool : List ℕ → Option Bool → Type 0
ReadsBool text answer = IsSomeAnd answer (λ b. IsTrue b ↔ IsTrueText text)
