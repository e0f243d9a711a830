-- Euclid's steps, and what follows of them for common multiples.
use Rattle.std.proofs.Common.{◌≡◌, ◌↔◌, ℕ, zero, suc, ◌+◌, ◌-◌, ◌*◌, ◌/◌, ◌%◌, ◌<◌, ◌≤◌, sym, ap, ◌∙◌, subst, arith}
use Rattle.std.proofs.Math.Nat.{add-mul, mul-add, mul_assoc, mul_comm, one-mul, zero-mul, mul-zero, mul-one, le_of_mul-le-mul_right, mul-mod_right, mod-eq_of_lt, mul-div_cancel, dvd-mul_right, le-mul_of_pos_right}
use Prim.Native.Nat.{◌∣◌}
use Rattle.std.proofs.lemmas.Nat.{div-add-mod'}
use Rattle.std.proofs.lemmas.Nat.Gcd.{dvd_trans, dvd_of_mod-eq-zero, mod-eq-zero_of_dvd}
use Rattle.spa_filter_elements.specs.Ratios.{AreScaled, HasRatio}

pub pos_left : (p g b : ℕ) → b ≡ p * g → 0 < b → 0 < p
pos_left zero g b e l = omega (arith, zero-mul g)
pos_left (suc p) g b e l = omega arith

pub pos_right : (p g b : ℕ) → b ≡ p * g → 0 < b → 0 < g
pos_right p zero b e l = omega (arith, mul-zero p)
pos_right p (suc g) b e l = omega arith

module _ (a b g : ℕ) (pos : 0 < b) (h : HasRatio b (a % b) g) where
  abbrev c : ℕ
  c = a / b

  whole : a ≡ (c * h.p + h.q) * g
  whole =
      let quotient : c * b ≡ c * h.p * g = ap (λ z. c * z) h.first ∙ sym (mul_assoc c h.p g) in
      omega (arith, div-add-mod' a b, quotient, h.second, add-mul (c * h.p) h.q g)

  module _ (n k : ℕ) (e : n * h.p ≡ k * (c * h.p + h.q)) where
    spread : n * h.p ≡ k * c * h.p + k * h.q
    spread = e ∙ mul-add k (c * h.p) h.q ∙ ap (λ z. z + k * h.q) (sym (mul_assoc k c h.p))

    below : k * c ≤ n
    below =
        let more : k * c * h.p ≤ n * h.p = omega (arith, spread) in
        le_of_mul-le-mul_right more (pos_left h.p g b h.first pos)

    abbrev d : ℕ
    d = n - k * c

    left : n ≡ k * c + d
    left = omega (arith, below)

    smaller : k * h.q ≡ d * h.p
    smaller =
        let split : n * h.p ≡ k * c * h.p + d * h.p = ap (λ z. z * h.p) left ∙ add-mul (k * c) d h.p in
        omega (arith, split, spread)

    scaled : AreScaled n k (c * h.p + h.q) h.p
    scaled =
        let s = h.apart k d smaller in
        let f = s.factor in
        let first : k * c ≡ f * (c * h.p) =
        ap (λ z. z * c) s.first ∙ mul_assoc f h.p c ∙ ap (λ z. f * z) (mul_comm h.p c) in
        record {
          factor = f;
          first = omega (arith, left, first, s.second, mul-add f (c * h.p) h.q);
          second = s.first;
        }

  -- one step
  pub HasRatio-step : HasRatio a b g
  HasRatio-step =
      record {
        p = c * h.p + h.q;
        q = h.p;
        first = whole;
        second = h.first;
        apart = λ n k e. scaled n k e;
      }

-- the end
pub HasRatio-end : (a b : ℕ) → b ≡ 0 → HasRatio a b a
HasRatio-end a b none =
    record {
      p = 1;
      q = 0;
      first = sym (one-mul a);
      second = none ∙ sym (zero-mul a);
      apart = λ n k e.
          record {
            factor = n;
            first = sym (mul-one n);
            second = sym (mul-one k) ∙ sym e;
          };
    }

module _ (x y g : ℕ) (px : 0 < x) (py : 0 < y) (h : HasRatio x y g) where
  factor_is : y / g ≡ h.q
  factor_is =
      ap (λ z. z / g) h.second ∙ mul-div_cancel h.q (pos_right h.p g x h.first px)

  module _ (n : ℕ) (mx : n % x ≡ 0) (my : n % y ≡ 0) where
    abbrev u : ℕ
    u = n / x

    abbrev v : ℕ
    v = n / y

    by_x : n ≡ u * h.p * g
    by_x =
        let e : u * x ≡ u * h.p * g = ap (λ z. u * z) h.first ∙ sym (mul_assoc u h.p g) in
        omega (arith, div-add-mod' n x, mx, e)

    by_y : n ≡ v * h.q * g
    by_y =
        let e : v * y ≡ v * h.q * g = ap (λ z. v * z) h.second ∙ sym (mul_assoc v h.q g) in
        omega (arith, div-add-mod' n y, my, e)

    ratio : v * h.q ≡ u * h.p
    ratio =
        let positive = pos_right h.p g x h.first px in
        let same : v * h.q * g ≡ u * h.p * g = sym by_y ∙ by_x in
        sym (mul-div_cancel (v * h.q) positive) ∙ ap (λ z. z / g) same ∙ mul-div_cancel (u * h.p) positive

    both_common : n % (x * h.q) ≡ 0
    both_common =
        let s = h.apart v u ratio in
        let f = s.factor in
        let e : n ≡ x * h.q * f =
        omega (arith, div-add-mod' n x, mx) ∙ ap (λ z. z * x) s.second ∙ mul_comm (f * h.q) x
        ∙ ap (λ z. x * z) (mul_comm f h.q) ∙ sym (mul_assoc x h.q f) in
        ap (λ z. z % (x * h.q)) e ∙ mul-mod_right (x * h.q) f

  module _ (n : ℕ) (m : n % (x * h.q) ≡ 0) where
    common_first : n % x ≡ 0
    common_first =
        mod-eq-zero_of_dvd x (dvd_trans x (dvd-mul_right x h.q) (dvd_of_mod-eq-zero (x * h.q) m))

    common_second : n % y ≡ 0
    common_second =
        let e : y * h.p ≡ x * h.q =
        ap (λ z. z * h.p) h.second ∙ mul_comm (h.q * g) h.p ∙ ap (λ z. h.p * z) (mul_comm h.q g)
        ∙ sym (mul_assoc h.p g h.q) ∙ ap (λ z. z * h.q) (sym h.first) in
        let divides = subst (λ z. y ∣ z) e (dvd-mul_right y h.p) in
        mod-eq-zero_of_dvd y (dvd_trans y divides (dvd_of_mod-eq-zero (x * h.q) m))

  positive_factor : 0 < h.q
  positive_factor = pos_left h.q g y h.second py

  pub common_exactly : (m : ℕ) → m ≡ x * (y / g) → (n : ℕ) →
      (n % m ≡ 0) ↔ ((n % x ≡ 0) × (n % y ≡ 0))
  common_exactly m is n =
      let same : m ≡ x * h.q = is ∙ ap (λ z. x * z) factor_is in (
        λ e. let r = subst (λ z. n % z ≡ 0) same e in (common_first n r, common_second n r),
        λ e. subst (λ z. n % z ≡ 0) (sym same) (both_common n e.0 e.1),
      )

  -- a common multiple that is below the least one is 0
  pub common_below : (n : ℕ) → n < x * (y / g) → n % x ≡ 0 → n % y ≡ 0 → n ≡ 0
  common_below n l mx my =
      let less : n < x * h.q = subst (λ z. n < x * z) factor_is l in
      sym (mod-eq_of_lt less) ∙ both_common n mx my

  pub positive_product : 0 < x * (y / g)
  positive_product =
      let grown : x ≤ x * h.q = le-mul_of_pos_right x positive_factor in
      let same : x * (y / g) ≡ x * h.q = ap (λ z. x * z) factor_is in
      omega (arith, grown, same, px)
