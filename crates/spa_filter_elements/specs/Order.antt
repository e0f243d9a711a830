-- The order of the elements of fixed size: docs/NEGOTIATION.md, "What a value admits to filter".
use Rattle.std.specs.Prelude.{⊤, ℕ, ◌+◌, ◌-◌, ◌*◌, ◌%◌, ◌<◌, ◌≤◌, ◌≤ℤ◌, nat_lt, if◌then◌else◌}
use Rattle.spa_format.specs.Kind.{Kind, none_kind, bool_kind, fd_kind, Fixed, id, int, long, float, double, rectangle, fraction}

-- the bits of a positive infinity: a float whose bits, but the sign's, are above it is no number
abbrev pub float_infinity : ℕ
float_infinity = 0x7f80_0000

abbrev pub double_infinity : ℕ
double_infinity = 0x7ff0_0000_0000_0000

-- the bit of the sign
abbrev pub float_sign : ℕ
float_sign = 0x8000_0000

abbrev pub double_sign : ℕ
double_sign = 0x8000_0000_0000_0000

-- the float is a number
abbrev pub IsNumber : (sign infinity bits : ℕ) → Type 0
IsNumber sign infinity bits = bits % sign ≤ infinity

-- the position of a float in the order of all floats: both zeros are at the number of the sign's bit, a float above 0 is above that
-- by its other bits, and a float below 0 below it by its other bits
abbrev pub place : (sign bits : ℕ) → ℕ
place sign bits = if nat_lt bits sign then sign + bits else sign - (bits - sign)

-- both floats are numbers, and the first is no greater than the second; -0 and 0 are two elements at one position
abbrev pub IsFloatAtMost : (sign infinity x y : ℕ) → Type 0
IsFloatAtMost sign infinity x y =
    IsNumber sign infinity x × IsNumber sign infinity y × (place sign x ≤ place sign y)

-- Two elements of one ordered kind, the first no greater than the second: rectangles where neither side is
-- longer, fractions by their quotients, where the denominators are above 0.
abbrev pub IsAtMost : Fixed → Fixed → Type 0
IsAtMost (id x) (id y) = x ≤ y
IsAtMost (int x) (int y) = x ≤ℤ y
IsAtMost (long x) (long y) = x ≤ℤ y
IsAtMost (float x) (float y) = IsFloatAtMost float_sign float_infinity x y
IsAtMost (double x) (double y) = IsFloatAtMost double_sign double_infinity x y
IsAtMost (rectangle w h) (rectangle v g) = (w ≤ v) × (h ≤ g)
IsAtMost (fraction n d) (fraction m e) = (0 < d) × (0 < e) × (n * e ≤ m * d)
IsAtMost _ _ = ⊥

-- x is from low to high
abbrev pub IsWithin : (low high x : Fixed) → Type 0
IsWithin low high x = IsAtMost low x × IsAtMost x high

-- the kinds that have an order
abbrev pub IsOrderedKind : Kind → Type 0
IsOrderedKind none_kind = ⊥
IsOrderedKind bool_kind = ⊥
IsOrderedKind fd_kind = ⊥
IsOrderedKind _ = ⊤
