-- Multiples between bounds, and those of them that are within other bounds, too, or are multiples of another step.
use Rattle.std.specs.Prelude.{◌↔◌, ℕ, ◌≤◌, Option, Some, None}
use Rattle.spa_format.specs.Kind.{Fixed}
use Rattle.spa_filter_elements.specs.Multiples.{IsMultiple}
use Rattle.spa_filter_elements.specs.Order.{IsAtMost, IsWithin}
use Rattle.spa_filter_elements.specs.Steps.{IsMultipleOf, IsInSteps}
use Rattle.spa_filter_elements.specs.declared.stepped.Steps.{Steps}

-- x is one of these multiples, where `f` gives the element of a value of the type
abbrev pub IsInStepsOf : {T : Type 0} → (T → Fixed) → Steps T → Fixed → Type 0
IsInStepsOf f steps x = IsInSteps (f steps.low) (f steps.high) (f steps.step) x

-- `narrowed` are the multiples of `steps` that are multiples of another step, too
pub record AreNarrowed {T : Type 0} (f : T → Fixed) (steps : Steps T) (other : T) (narrowed : Steps T) : Type 0 where
  pub each : (x : Fixed) → IsInStepsOf f narrowed x ↔ (IsInStepsOf f steps x × IsMultipleOf x (f other))

-- `within` are the multiples of `steps` that are from low to high
pub record AreInBoth {T : Type 0} (f : T → Fixed) (steps : Steps T) (low high : Fixed) (within : Steps T) : Type 0 where
  pub each : (x : Fixed) → IsInStepsOf f within x ↔ (IsInStepsOf f steps x × IsWithin low high x)

-- `both` are the multiples that both `steps` and `others` have
pub record AreOfBoth {T : Type 0} (f : T → Fixed) (steps others both : Steps T) : Type 0 where
  pub each : (x : Fixed) → IsInStepsOf f both x ↔ (IsInStepsOf f steps x × IsInStepsOf f others x)

-- the number is one of these multiples
abbrev pub IsSide : Steps ℕ → ℕ → Type 0
IsSide steps n = (steps.low ≤ n) × (n ≤ steps.high) × IsMultiple n steps.step

-- `narrowed` are the multiples of `steps` that are multiples of another step, too
pub record AreSidesNarrowed (steps : Steps ℕ) (other : ℕ) (narrowed : Steps ℕ) : Type 0 where
  pub each : (n : ℕ) → IsSide narrowed n ↔ (IsSide steps n × IsMultiple n other)

-- the first of these multiples, which is no greater than any; None where there are none
abbrev pub IsFirst : {T : Type 0} → (T → Fixed) → Steps T → Option T → Type 0
IsFirst f steps (Some y) =
    IsInStepsOf f steps (f y) × ((x : Fixed) → IsInStepsOf f steps x → IsAtMost (f y) x)
IsFirst f steps None = (x : Fixed) → ¬ (IsInStepsOf f steps x)
