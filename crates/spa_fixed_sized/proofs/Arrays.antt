-- Steps of the reader of arrays.
use Rattle.std.proofs.Common.{◌≡◌, ℕ, suc, zero, ◌*◌, ◌-◌, ◌/◌, ◌%◌, ◌<◌, ◌≤◌, List}
use Rattle.std.proofs.Common.{length, arith}
use Rattle.spa_fixed_sized.specs.Reading.{AreWhole}

whole_parts : (n s : ℕ) → n % s ≡ 0 → n ≡ n / s * s
whole_parts n s e = grind arith

pub whole_of : (s : ℕ) (b : List ℕ) → length b % s ≡ 0 → AreWhole s b
whole_of s b e = record { many = length b / s; count = whole_parts (length b) s e }

pub one_less : (m s l : ℕ) → l ≡ m * s → s ≤ l → 0 < s → l - s ≡ (m - 1) * s
one_less zero s l e h p = absurd (omega arith)
one_less (suc m) s l e h p = grind arith
