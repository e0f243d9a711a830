-- Multiples of numbers, and the first one between two bounds: docs/NEGOTIATION.md, "What a value admits to filter".
use Rattle.std.specs.Prelude.{◌≡◌, ◌↔◌, ℕ, ◌<◌, ◌≤◌, ◌%◌, ◌^◌, Option, Some, None, ℤ, ◌≤ℤ◌, unsigned_abs}

-- the number is a multiple of the step; no number is a multiple of 0
abbrev pub IsMultiple : (n step : ℕ) → Type 0
IsMultiple n step = (0 < step) × (n % step ≡ 0)

-- the magnitude of the number, which may be below 0, is a multiple of the step
abbrev pub IsSignedMultiple : (n : ℤ) → (step : ℕ) → Type 0
IsSignedMultiple n step = IsMultiple (unsigned_abs n) step

-- the number whose multiples are the common multiples of both; None where it doesn't fit 64 bits, so that only 0 below 2 ^ 64 is one
abbrev pub IsCommonMultiple : (x y : ℕ) → Option ℕ → Type 0
IsCommonMultiple x y (Some m) = (n : ℕ) → IsMultiple n m ↔ (IsMultiple n x × IsMultiple n y)
IsCommonMultiple x y None =
    (0 < x) × (0 < y) × ((n : ℕ) → n < 2 ^ 64 → IsMultiple n x → IsMultiple n y → n ≡ 0)

-- the least multiple of the step from low to high; None where there is none
abbrev pub IsFirstMultiple : (low high step : ℕ) → Option ℕ → Type 0
IsFirstMultiple low high step (Some n) =
    (low ≤ n) × (n ≤ high) × IsMultiple n step × ((m : ℕ) → low ≤ m → IsMultiple m step → n ≤ m)
IsFirstMultiple low high step None = (m : ℕ) → low ≤ m → m ≤ high → ¬ (IsMultiple m step)

-- the least multiple of the step from low to high, which may be below 0; None where there is none
abbrev pub IsFirstSigned : (low high : ℤ) (step : ℕ) → Option ℤ → Type 0
IsFirstSigned low high step (Some n) =
    (low ≤ℤ n) × (n ≤ℤ high) × IsSignedMultiple n step
    × ((m : ℤ) → low ≤ℤ m → IsSignedMultiple m step → n ≤ℤ m)
IsFirstSigned low high step None = (m : ℤ) → low ≤ℤ m → m ≤ℤ high → ¬ (IsSignedMultiple m step)
