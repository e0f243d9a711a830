-- Steps over the kinds that have them.
use Rattle.std.proofs.Common.{◌≡◌, ◌↔◌, ℕ, ◌≤◌, ℤ, ◌≤ℤ◌, unsigned_abs, pos, negsuc, w32, w64, to_z, of_z, Option, Some, None, refl, ap, ◌∙◌, subst, arith}
use Rattle.std.proofs.lemmas.Int.{ints, to_z-of_z}
use Rattle.spa_format.specs.Kind.{Fixed, kind_of, int, long, rectangle}
use Rattle.spa_filter_elements.specs.Multiples.{IsFirstSigned}
use Rattle.spa_filter_elements.specs.NumberSteps as signed
use Rattle.spa_filter_elements.specs.Order.{IsAtMost}
use Rattle.spa_filter_elements.specs.Steps.{IsInSteps, IsMultipleOf, IsStepKind}
use Rattle.spa_filter_elements.specs.Narrowing.{AreSidesNarrowed}
use Rattle.spa_filter_elements.specs.declared.stepped.Steps.{Steps}

-- a multiple is of a kind that has steps
pub IsStepKind-multiple : (x step : Fixed) → IsMultipleOf x step → IsStepKind (kind_of x)
IsStepKind-multiple (int n) step h = tt
IsStepKind-multiple (long n) step h = tt
IsStepKind-multiple (rectangle w g) step h = tt
IsStepKind-multiple _ step h = absurd h

-- of numbers that may be below 0
module _ (low high step t lo hi st : ℤ) (h : signed.AreNarrowed low high step t lo hi st) where
  pub narrowed-int : (x : Fixed) →
      IsInSteps (int lo) (int hi) (int st) x ↔ (IsInSteps (int low) (int high) (int step) x × IsMultipleOf x (int t))
  narrowed-int (int n) =
      let e = h.each n in (
        λ k. let b = e.0 (k.0.0, k.0.1, k.1) in (((b.0.0, b.0.1), b.0.2), b.1),
        λ k. let b = e.1 ((k.0.0.0, k.0.0.1, k.0.1), k.1) in ((b.0, b.1), b.2),
      )
  narrowed-int _ = (λ k. absurd k.0.0, λ k. absurd k.0.0.0)

  pub narrowed-long : (x : Fixed) →
      IsInSteps (long lo) (long hi) (long st) x
      ↔ (IsInSteps (long low) (long high) (long step) x × IsMultipleOf x (long t))
  narrowed-long (long n) =
      let e = h.each n in (
        λ k. let b = e.0 (k.0.0, k.0.1, k.1) in (((b.0.0, b.0.1), b.0.2), b.1),
        λ k. let b = e.1 ((k.0.0.0, k.0.0.1, k.0.1), k.1) in ((b.0, b.1), b.2),
      )
  narrowed-long _ = (λ k. absurd k.0.0, λ k. absurd k.0.0.0)

-- numbers that fit come back from a wider type
own_long : (z : ℤ) → negsuc 9223372036854775807 ≤ℤ z → z ≤ℤ pos 9223372036854775807 → to_z w64 (of_z w64 z) ≡ z
own_long z p q = first_of (search (arith, ints, to_z-of_z), grind (arith, ints, to_z-of_z))

own_int : (z : ℤ) → negsuc 2147483647 ≤ℤ z → z ≤ℤ pos 2147483647 → to_z w32 (of_z w32 z) ≡ z
own_int z p q = first_of (search (arith, ints, to_z-of_z), grind (arith, ints, to_z-of_z))

pub own_both : (z : ℤ) → (negsuc 2147483647 ≤ℤ z) × (z ≤ℤ pos 2147483647) →
    to_z w32 (of_z w32 (to_z w64 (of_z w64 z))) ≡ z
own_both z h =
    let p = h.0 in
    let q = h.1 in
    let least : negsuc 9223372036854775807 ≤ℤ z = omega (arith, ints) in
    let greatest : z ≤ℤ pos 9223372036854775807 = omega (arith, ints) in
    ap (λ x. to_z w32 (of_z w32 x)) (own_long z least greatest) ∙ own_int z p q

-- what is narrowed, of numbers that are equal
pub narrowed_by : (a b c d e f g l h s t lo hi st : ℤ) → a ≡ l → b ≡ h → c ≡ s → d ≡ t → e ≡ lo → f ≡ hi → g ≡ st →
    signed.AreNarrowed a b c d e f g → signed.AreNarrowed l h s t lo hi st
narrowed_by a b c d e f g l h s t lo hi st p q r u v w x k =
    subst (λ z. signed.AreNarrowed z h s t lo hi st) p
    (subst (λ z. signed.AreNarrowed a z s t lo hi st) q
    (subst (λ z. signed.AreNarrowed a b z t lo hi st) r
    (subst (λ z. signed.AreNarrowed a b c z lo hi st) u
    (subst (λ z. signed.AreNarrowed a b c d z hi st) v
    (subst (λ z. signed.AreNarrowed a b c d e z st) w
    (subst (λ z. signed.AreNarrowed a b c d e f z) x k))))))

module _ (low high step : ℤ) where
  module _ (y : ℤ) (h : IsFirstSigned low high (unsigned_abs step) (Some y)) where
    pub least-int : (x : Fixed) → IsInSteps (int low) (int high) (int step) x → IsAtMost (int y) x
    least-int (int n) k = h.3 n k.0.0 k.1
    least-int _ k = absurd k.0.0

  module _ (h : IsFirstSigned low high (unsigned_abs step) None) where
    pub none-int : (x : Fixed) → ¬ (IsInSteps (int low) (int high) (int step) x)
    none-int (int n) k = h n k.0.0 k.0.1 k.1
    none-int _ k = absurd k.0.0

-- of the sides of rectangles, which are never below 0
down : (a b : ℕ) → pos a ≤ℤ pos b → a ≤ b
down a b h = omega (arith, ints)

up : (a b : ℕ) → a ≤ b → pos a ≤ℤ pos b
up a b h = omega (arith, ints)

pub AreSidesNarrowed-signed : (s n : Steps ℕ) (other : ℕ) →
    signed.AreNarrowed (pos s.low) (pos s.high) (pos s.step) (pos other) (pos n.low) (pos n.high) (pos n.step) →
    AreSidesNarrowed s other n
AreSidesNarrowed-signed s n other h =
    record {
      each = λ x.
          let e = h.each (pos x) in (
            λ k.
                let b = e.0 (up n.low x k.0, up x n.high k.1, k.2) in
                ((down s.low x b.0.0, down x s.high b.0.1, b.0.2), b.1),
            λ k.
                let b = e.1 ((up s.low x k.0.0, up x s.high k.0.1, k.0.2), k.1) in
                (down n.low x b.0, down x n.high b.1, b.2),
          );
    }

own_pos : (z : ℤ) → pos 0 ≤ℤ z → pos (unsigned_abs z) ≡ z
own_pos (pos n) h = refl
own_pos (negsuc n) h = absurd (omega (arith, ints, h))

-- what isn't below 0 comes back from its magnitude,
pub own_side : (z : ℤ) → (pos 0 ≤ℤ z) × (z ≤ℤ pos 4294967295) → pos (unsigned_abs (to_z w64 (of_z w64 z))) ≡ z
own_side z h =
    let p = h.0 in
    let q = h.1 in
    let least : negsuc 9223372036854775807 ≤ℤ z = omega (arith, ints) in
    let greatest : z ≤ℤ pos 9223372036854775807 = omega (arith, ints) in
    ap (λ x. pos (unsigned_abs x)) (own_long z least greatest) ∙ own_pos z p

-- and what lies between numbers that fit fits
pub own_between : (l h z : ℤ) → negsuc 2147483647 ≤ℤ l → h ≤ℤ pos 2147483647 → l ≤ℤ z → z ≤ℤ h →
    to_z w32 (of_z w32 (to_z w64 (of_z w64 z))) ≡ z
own_between l h z p q above below =
    let least : negsuc 2147483647 ≤ℤ z = omega (arith, ints) in
    let greatest : z ≤ℤ pos 2147483647 = omega (arith, ints) in
    own_both z (least, greatest)

-- the first one, of numbers that are equal
pub first_by : (a b : ℤ) (c : ℕ) (l h : ℤ) (s : ℕ) (o : Option ℤ) → a ≡ l → b ≡ h → c ≡ s →
    IsFirstSigned a b c o → IsFirstSigned l h s o
first_by a b c l h s o p q r k =
    subst (λ z. IsFirstSigned z h s o) p
    (subst (λ z. IsFirstSigned a z s o) q
    (subst (λ z. IsFirstSigned a b z o) r k))
