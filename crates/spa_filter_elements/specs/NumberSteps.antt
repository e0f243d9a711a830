-- Multiples between bounds: docs/NEGOTIATION.md, "What a value admits to filter".
use Rattle.std.specs.Prelude.{◌≡◌, ◌≢◌, ◌↔◌, ℕ, ℤ, pos, ◌<◌, ◌≤◌, ◌≤ℤ◌, ◌+◌, unsigned_abs, Option, Some, None}
use Rattle.spa_filter_elements.specs.Multiples.{IsSignedMultiple}

-- the number is a multiple of the step, and is from low to high
abbrev pub IsInSteps : (low high step n : ℤ) → Type 0
IsInSteps low high step n = (low ≤ℤ n) × (n ≤ℤ high) × IsSignedMultiple n (unsigned_abs step)

-- the numbers from the least to the greatest are as those of a number type: 0 is one, and below 0 there is at most one more than above
pub record IsRange (least greatest : ℤ) : Type 0 where
  pub least_below : least ≤ℤ pos 0
  pub greatest_above : pos 0 ≤ℤ greatest
  pub even : unsigned_abs least ≤ unsigned_abs greatest + 1

-- the number is from the least to the greatest
abbrev pub IsFrom : (least greatest n : ℤ) → Type 0
IsFrom least greatest n = (least ≤ℤ n) × (n ≤ℤ greatest)

-- the step from the least to the greatest whose multiples are the common multiples of x and y; None where between these two only 0 is one
abbrev pub IsCommonStep : (x y least greatest : ℤ) → Option ℤ → Type 0
IsCommonStep x y least greatest (Some s) =
    IsFrom least greatest s
    × ((n : ℤ) → IsSignedMultiple n (unsigned_abs s)
    ↔ (IsSignedMultiple n (unsigned_abs x) × IsSignedMultiple n (unsigned_abs y)))
IsCommonStep x y least greatest None =
    (0 < unsigned_abs x) × (0 < unsigned_abs y)
    × ((n : ℤ) → IsFrom least greatest n → IsSignedMultiple n (unsigned_abs x) →
    IsSignedMultiple n (unsigned_abs y) → n ≡ pos 0)

-- the number from the least to the greatest with this magnitude; None where there is none
abbrev pub IsOfMagnitude : (magnitude : ℕ) → (least greatest : ℤ) → Option ℤ → Type 0
IsOfMagnitude magnitude least greatest (Some s) = (unsigned_abs s ≡ magnitude) × IsFrom least greatest s
IsOfMagnitude magnitude least greatest None =
    (unsigned_abs greatest < magnitude) × (magnitude ≢ unsigned_abs least)

-- the multiples of `step` from low to high are the common multiples of `first_step` and `other` from `first_low` to `first_high`
pub record AreNarrowed (first_low first_high first_step other low high step : ℤ) : Type 0 where
  pub each : (n : ℤ) → IsInSteps low high step n
      ↔ (IsInSteps first_low first_high first_step n × IsSignedMultiple n (unsigned_abs other))
