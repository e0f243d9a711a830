-- Steps whose multiples are those of two.
use Rattle.std.proofs.Common.{◌≡◌, ◌↔◌, ℕ, ℤ, pos, ◌%◌, ◌<◌, ◌≤ℤ◌, unsigned_abs, Option, Some, None, sym, ap, ◌∙◌, subst, arith}
use Rattle.std.proofs.Math.Nat.{mod-eq_of_lt}
use Rattle.std.proofs.lemmas.Int.{ints, clamps}
use Rattle.std.specs.Int.{int_max, int_min}
use Rattle.spa_filter_elements.specs.Multiples.{IsMultiple, IsSignedMultiple, IsCommonMultiple}
use Rattle.spa_filter_elements.specs.NumberSteps.{IsRange, IsFrom, IsCommonStep, IsOfMagnitude, AreNarrowed}

zero_mod : (m : ℕ) → 0 < m → 0 % m ≡ 0
zero_mod m l = mod-eq_of_lt l

zero_abs : (n : ℤ) → unsigned_abs n ≡ 0 → n ≡ pos 0
zero_abs n e = omega (arith, ints)

module _ (least greatest : ℤ) (range : IsRange least greatest) (m : ℕ) where
  -- what is below a magnitude that no number of the range has but 0
  below_magnitude : IsOfMagnitude m least greatest None → (n : ℤ) → IsFrom least greatest n → unsigned_abs n < m
  below_magnitude h n i =
      let above = h.0 in
      let apart = h.1 in
      let even = range.even in
      let low = i.0 in
      let high = i.1 in
      let least_below = range.least_below in
      let greatest_above = range.greatest_above in
      omega (arith, ints)

  module _ (x y : ℤ) (common : IsCommonMultiple (unsigned_abs x) (unsigned_abs y) (Some m)) where
    pub common_step_is : (o : Option ℤ) → IsOfMagnitude m least greatest o → IsCommonStep x y least greatest o
    common_step_is (Some s) h = (
      h.1,
      λ n. subst (λ z. IsMultiple (unsigned_abs n) z
          ↔ (IsSignedMultiple n (unsigned_abs x) × IsSignedMultiple n (unsigned_abs y))) (sym h.0) (common (unsigned_abs n)),
    )
    common_step_is None h =
        let above : 0 < m = omega (arith, h.0) in
        let zero = (common 0).0 (above, zero_mod m above) in (
          zero.0.0,
          zero.1.0,
          λ n i p q.
              let both = (common (unsigned_abs n)).1 (p, q) in
              zero_abs n (sym (mod-eq_of_lt (below_magnitude h n i)) ∙ both.1),
        )

module _ (low high step other least greatest : ℤ) where
  -- by a step of both
  pub narrowed-step : (s : ℤ) → IsCommonStep step other least greatest (Some s) →
      AreNarrowed low high step other low high s
  narrowed-step s h =
      record {
        each = λ n.
            let both = h.1 n in (
              λ i. let b = both.0 i.2 in ((i.0, i.1, b.0), b.1),
              λ i. (i.0.0, i.0.1, both.1 (i.0.2, i.1)),
            );
      }

  -- to 0 alone
  module _ (i : IsFrom least greatest low) (j : IsFrom least greatest high) where
    zero_multiple : (n : ℤ) (m : ℕ) → n ≡ pos 0 → 0 < m → IsSignedMultiple n m
    zero_multiple n m e l = (l, ap (λ z. unsigned_abs z % m) e ∙ zero_mod m l)

    pub narrowed-zero : IsCommonStep step other least greatest None → (lo hi : ℤ) →
        (low ≤ℤ lo) → (pos 0 ≤ℤ lo) → ((n : ℤ) → low ≤ℤ n → pos 0 ≤ℤ n → lo ≤ℤ n) →
        (hi ≤ℤ high) → (hi ≤ℤ pos 0) → ((n : ℤ) → n ≤ℤ high → n ≤ℤ pos 0 → n ≤ℤ hi) →
        AreNarrowed low high step other lo hi step
    narrowed-zero h lo hi low_below zero_below lo_least high_above zero_above hi_greatest =
        record {
          each = λ n. (
            λ k.
                let from = k.0 in
                let to = k.1 in
                let is : n ≡ pos 0 = omega (arith, ints) in (
                  ((let a : low ≤ℤ n = omega (arith, ints) in a), (let b : n ≤ℤ high = omega (arith, ints) in b), k.2),
                  zero_multiple n (unsigned_abs other) is h.1,
                ),
            λ k.
                let from = k.0.0 in
                let to = k.0.1 in
                let within : IsFrom least greatest n =
                ((let p = i.0 in omega (arith, ints)), (let p = j.1 in omega (arith, ints))) in
                let is : n ≡ pos 0 = h.2 n within k.0.2 k.1 in (
                  lo_least n from (omega (arith, ints)),
                  hi_greatest n to (omega (arith, ints)),
                  k.0.2,
                ),
          );
        }

-- a common step of equal numbers
pub common_by : (x y l g x' y' l' g' : ℤ) (o : Option ℤ) → x ≡ x' → y ≡ y' → l ≡ l' → g ≡ g' →
    IsCommonStep x y l g o → IsCommonStep x' y' l' g' o
common_by x y l g x' y' l' g' o a b c d h =
    subst (λ z. IsCommonStep z y' l' g' o) a
    (subst (λ z. IsCommonStep x z l' g' o) b
    (subst (λ z. IsCommonStep x y z g' o) c
    (subst (λ z. IsCommonStep x y l z o) d h)))

pub magnitude_by : (m : ℕ) (l g l' g' : ℤ) (o : Option ℤ) → l ≡ l' → g ≡ g' →
    IsOfMagnitude m l g o → IsOfMagnitude m l' g' o
magnitude_by m l g l' g' o a b h =
    subst (λ z. IsOfMagnitude m z g' o) a (subst (λ z. IsOfMagnitude m l z o) b h)

-- a bound on the near side of 0
pub record IsNotBelow (low m : ℤ) : Type 0 where
  pub low_below : low ≤ℤ m
  pub zero_below : pos 0 ≤ℤ m
  pub least : (n : ℤ) → low ≤ℤ n → pos 0 ≤ℤ n → m ≤ℤ n

pub max_zero : (low l m : ℤ) → l ≡ low → m ≡ int_max l (pos 0) → IsNotBelow low m
max_zero low l m e h =
    let is : m ≡ int_max low (pos 0) = h ∙ ap (λ z. int_max z (pos 0)) e in
    record { low_below = omega (arith, ints, clamps); zero_below = omega (arith, ints, clamps); least = λ n p q. omega (arith, ints, clamps) }

pub record IsNotAbove (high m : ℤ) : Type 0 where
  pub high_above : m ≤ℤ high
  pub zero_above : m ≤ℤ pos 0
  pub greatest : (n : ℤ) → n ≤ℤ high → n ≤ℤ pos 0 → n ≤ℤ m

pub min_zero : (high h m : ℤ) → h ≡ high → m ≡ int_min h (pos 0) → IsNotAbove high m
min_zero high h m e k =
    let is : m ≡ int_min high (pos 0) = k ∙ ap (λ z. int_min z (pos 0)) e in
    record { high_above = omega (arith, ints, clamps); zero_above = omega (arith, ints, clamps); greatest = λ n p q. omega (arith, ints, clamps) }
