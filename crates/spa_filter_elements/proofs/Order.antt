-- The order of contents.
use Rattle.std.proofs.Common.{◌≡◌, ℕ, ◌+◌, ◌*◌, ◌<◌, ◌≤◌, ◌⊎◌, inl, inr, refl, arith, Bool, true, false}
use Rattle.std.specs.Int.Signed.{≤ℤ_refl, lt_z}
use Rattle.std.proofs.lemmas.Bool.{cases_lt}
use Rattle.std.proofs.lemmas.Int.{ints}
use Rattle.std.proofs.Math.Nat.{mul-le-mul_left}
use Rattle.std.specs.Prelude.{ℤ, ◌≤ℤ◌}
use Rattle.spa_format.specs.Kind.{Fixed, kind_of, none, bool, id, int, long, float, double, rectangle, fraction, fd}
use Rattle.spa_filter_elements.specs.Order.{IsAtMost, IsOrderedKind, place, float_sign, double_sign}
use Rattle.spa_filter_elements.specs.Bounds.{IsChain}

int_trans : (x y z : ℤ) → x ≤ℤ y → y ≤ℤ z → x ≤ℤ z
int_trans x y z p q = omega (arith, ints)

int_total_by : (x y : ℤ) (b : Bool) → lt_z x y ≡ b → (x ≤ℤ y) ⊎ (y ≤ℤ x)
int_total_by x y true e = let h : x ≤ℤ y = grind (arith, ints) in inl h
int_total_by x y false e = let h : y ≤ℤ x = grind (arith, ints) in inr h

int_total : (x y : ℤ) → (x ≤ℤ y) ⊎ (y ≤ℤ x)
int_total x y = int_total_by x y (lt_z x y) refl

nat_total : (x y : ℕ) → (x ≤ y) ⊎ (y ≤ x)
nat_total x y =
    elim (cases_lt y x) [ inl l ↦ (let h : y ≤ x = omega arith in inr h) | inr l ↦ inl l ]

nat_trans : (x y z : ℕ) → x ≤ y → y ≤ z → x ≤ z
nat_trans x y z p q = omega arith

-- quotients n / d, m / e and l / f
quotients_trans : (n d m e l f : ℕ) → 0 < e → n * e ≤ m * d → m * f ≤ l * e → n * f ≤ l * d
quotients_trans n d m e l f z p q =
    elim (cases_lt (l * d) (n * f)) [
      | inl less ↦
          let more : l * d + 1 ≤ n * f = omega arith in
          let first = mul-le-mul_left e more in
          let second = mul-le-mul_left f p in
          let third = mul-le-mul_left d q in
          absurd (omega (arith, first, second, third, z))
      | inr h ↦ h
    ]

-- what is no greater than what is no greater than a third is no greater than that
pub IsAtMost-trans : (x y z : Fixed) → IsAtMost x y → IsAtMost y z → IsAtMost x z
IsAtMost-trans (id x) (id y) (id z) p q = nat_trans x y z p q
IsAtMost-trans (id x) (id y) _ p q = absurd q
IsAtMost-trans (id x) _ z p q = absurd p
IsAtMost-trans (int x) (int y) (int z) p q = int_trans x y z p q
IsAtMost-trans (int x) (int y) _ p q = absurd q
IsAtMost-trans (int x) _ z p q = absurd p
IsAtMost-trans (long x) (long y) (long z) p q = int_trans x y z p q
IsAtMost-trans (long x) (long y) _ p q = absurd q
IsAtMost-trans (long x) _ z p q = absurd p
IsAtMost-trans (float x) (float y) (float z) p q = (p.0, q.1, nat_trans _ (place float_sign y) _ p.2 q.2)
IsAtMost-trans (float x) (float y) _ p q = absurd q
IsAtMost-trans (float x) _ z p q = absurd p
IsAtMost-trans (double x) (double y) (double z) p q = (p.0, q.1, nat_trans _ (place double_sign y) _ p.2 q.2)
IsAtMost-trans (double x) (double y) _ p q = absurd q
IsAtMost-trans (double x) _ z p q = absurd p
IsAtMost-trans (rectangle w h) (rectangle v g) (rectangle u f) p q =
    (nat_trans w v u p.0 q.0, nat_trans h g f p.1 q.1)
IsAtMost-trans (rectangle w h) (rectangle v g) _ p q = absurd q
IsAtMost-trans (rectangle w h) _ z p q = absurd p
IsAtMost-trans (fraction n d) (fraction m e) (fraction l f) p q =
    (p.0, q.1, quotients_trans n d m e l f p.1 p.2 q.2)
IsAtMost-trans (fraction n d) (fraction m e) _ p q = absurd q
IsAtMost-trans (fraction n d) _ z p q = absurd p
IsAtMost-trans _ y z p q = absurd p

nat_refl : (x : ℕ) → x ≤ x
nat_refl x = omega arith

-- what is in order with any other is so with itself,
pub IsAtMost-left : (x y : Fixed) → IsAtMost x y → IsAtMost x x
IsAtMost-left (id x) y p = nat_refl x
IsAtMost-left (int x) y p = ≤ℤ_refl x
IsAtMost-left (long x) y p = ≤ℤ_refl x
IsAtMost-left (float x) (float y) p = (p.0, p.0, nat_refl _)
IsAtMost-left (float x) _ p = absurd p
IsAtMost-left (double x) (double y) p = (p.0, p.0, nat_refl _)
IsAtMost-left (double x) _ p = absurd p
IsAtMost-left (rectangle w h) y p = (nat_refl w, nat_refl h)
IsAtMost-left (fraction n d) (fraction m e) p = (p.0, p.0, nat_refl _)
IsAtMost-left (fraction n d) _ p = absurd p
IsAtMost-left _ y p = absurd p

-- and so is the other
pub IsAtMost-right : (x y : Fixed) → IsAtMost x y → IsAtMost y y
IsAtMost-right x (id y) p = nat_refl y
IsAtMost-right x (int y) p = ≤ℤ_refl y
IsAtMost-right x (long y) p = ≤ℤ_refl y
IsAtMost-right (float x) (float y) p = (p.1, p.1, nat_refl _)
IsAtMost-right (double x) (double y) p = (p.1, p.1, nat_refl _)
IsAtMost-right x (rectangle w h) p = (nat_refl w, nat_refl h)
IsAtMost-right (fraction n d) (fraction m e) p = (p.1, p.1, nat_refl _)
IsAtMost-right (id x) _ p = absurd p
IsAtMost-right (int x) _ p = absurd p
IsAtMost-right (long x) _ p = absurd p
IsAtMost-right (float x) _ p = absurd p
IsAtMost-right (double x) _ p = absurd p
IsAtMost-right (rectangle w h) _ p = absurd p
IsAtMost-right (fraction n d) _ p = absurd p
IsAtMost-right _ y p = absurd p

-- what is in order is of one kind
pub kind_of-ordered : (x y : Fixed) → IsAtMost x y → kind_of x ≡ kind_of y
kind_of-ordered (id x) (id y) p = refl
kind_of-ordered (int x) (int y) p = refl
kind_of-ordered (long x) (long y) p = refl
kind_of-ordered (float x) (float y) p = refl
kind_of-ordered (double x) (double y) p = refl
kind_of-ordered (rectangle w h) (rectangle v g) p = refl
kind_of-ordered (fraction n d) (fraction m e) p = refl
kind_of-ordered (id x) _ p = absurd p
kind_of-ordered (int x) _ p = absurd p
kind_of-ordered (long x) _ p = absurd p
kind_of-ordered (float x) _ p = absurd p
kind_of-ordered (double x) _ p = absurd p
kind_of-ordered (rectangle w h) _ p = absurd p
kind_of-ordered (fraction n d) _ p = absurd p
kind_of-ordered _ y p = absurd p

-- which has an order
pub IsOrderedKind-ordered : (x y : Fixed) → IsAtMost x y → IsOrderedKind (kind_of x)
IsOrderedKind-ordered none y p = absurd p
IsOrderedKind-ordered (bool b) y p = absurd p
IsOrderedKind-ordered (fd n) y p = absurd p
IsOrderedKind-ordered _ y p = tt

-- of two contents of a kind other than rectangles that are in order with themselves, one is no greater than the other
pub IsAtMost-total : (x y : Fixed) → IsChain (kind_of x) → kind_of x ≡ kind_of y → IsAtMost x x →
    IsAtMost y y → IsAtMost x y ⊎ IsAtMost y x
IsAtMost-total (id x) (id y) c k p q = nat_total x y
IsAtMost-total (id x) _ c k p q = cc
IsAtMost-total (int x) (int y) c k p q = int_total x y
IsAtMost-total (int x) _ c k p q = cc
IsAtMost-total (long x) (long y) c k p q = int_total x y
IsAtMost-total (long x) _ c k p q = cc
IsAtMost-total (float x) (float y) c k p q =
    elim (nat_total (place float_sign x) (place float_sign y)) [
      | inl h ↦ inl (p.0, q.0, h)
      | inr h ↦ inr (q.0, p.0, h)
    ]
IsAtMost-total (float x) _ c k p q = cc
IsAtMost-total (double x) (double y) c k p q =
    elim (nat_total (place double_sign x) (place double_sign y)) [
      | inl h ↦ inl (p.0, q.0, h)
      | inr h ↦ inr (q.0, p.0, h)
    ]
IsAtMost-total (double x) _ c k p q = cc
IsAtMost-total (fraction n d) (fraction m e) c k p q =
    elim (nat_total (n * e) (m * d)) [
      | inl h ↦ inl (p.0, q.0, h)
      | inr h ↦ inr (q.0, p.0, h)
    ]
IsAtMost-total (fraction n d) _ c k p q = cc
IsAtMost-total (rectangle w h) y c k p q = absurd c
IsAtMost-total _ y c k p q = absurd p
