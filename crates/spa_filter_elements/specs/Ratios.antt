-- Two numbers as multiples of their greatest common divisor.
use Rattle.std.specs.Prelude.{◌≡◌, ℕ, ◌*◌}

-- two numbers are p and q times this factor
pub record AreScaled (n k p q : ℕ) : Type 0 where
  pub factor : ℕ
  pub first : n ≡ factor * p
  pub second : k ≡ factor * q

-- x and y are p and q times g, and p and q share no factor: where n times q is k times p, n and k are scaled p and q
pub record HasRatio (x y g : ℕ) : Type 0 where
  pub p : ℕ
  pub q : ℕ
  pub first : x ≡ p * g
  pub second : y ≡ q * g
  pub apart : (n k : ℕ) → n * q ≡ k * p → AreScaled n k p q
