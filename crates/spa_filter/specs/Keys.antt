-- Keys that both sides must have: docs/NEGOTIATION.md, "To filter".
use Rattle.std.specs.Prelude.{◌≡◌, ℕ, bit_and}

-- the flag MANDATORY, bit 3
abbrev pub mandatory : ℕ
mandatory = 8

-- the flags have MANDATORY among them
abbrev pub IsMandatory : ℕ → Type 0
IsMandatory flags = bit_and flags mandatory ≡ mandatory
