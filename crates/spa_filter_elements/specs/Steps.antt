-- Steps, as multiples of elements: docs/NEGOTIATION.md, "What a value admits to filter".
use Rattle.std.specs.Prelude.{⊤, unsigned_abs}
use Rattle.spa_format.specs.Kind.{Kind, int_kind, long_kind, rectangle_kind, Fixed, int, long, rectangle}
use Rattle.spa_filter_elements.specs.Multiples.{IsMultiple, IsSignedMultiple}
use Rattle.spa_filter_elements.specs.Order.{IsWithin}

-- two elements of one kind that has steps, the first a multiple of the second: numbers below 0 by their
-- magnitudes, rectangles in width and in height. No element is a multiple of 0.
abbrev pub IsMultipleOf : Fixed → Fixed → Type 0
IsMultipleOf (int x) (int s) = IsSignedMultiple x (unsigned_abs s)
IsMultipleOf (long x) (long s) = IsSignedMultiple x (unsigned_abs s)
IsMultipleOf (rectangle w h) (rectangle v g) = IsMultiple w v × IsMultiple h g
IsMultipleOf _ _ = ⊥

-- x is from low to high, and a multiple of the step
abbrev pub IsInSteps : (low high step x : Fixed) → Type 0
IsInSteps low high step x = IsWithin low high x × IsMultipleOf x step

-- the kinds that have steps
abbrev pub IsStepKind : Kind → Type 0
IsStepKind int_kind = ⊤
IsStepKind long_kind = ⊤
IsStepKind rectangle_kind = ⊤
IsStepKind _ = ⊥
