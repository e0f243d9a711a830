-- Flags, and the bits that two of them share.
use Rattle.std.proofs.Common.{◌≡◌, ◌↔◌, ℕ, ◌<◌, ◌^◌, refl, sym, ap, ◌∙◌, subst, arith, bit_and}
use mir.Val.{bits}
use Rattle.std.specs.Int.{Width, w32, w64, cast_unsigned, cast_signed}
use Rattle.std.specs.Prelude.{ℤ}
use Rattle.std.proofs.lemmas.Nat.{and_assoc, and_comm, and_le_l}
use Rattle.std.proofs.lemmas.Int.{of_z-to_z}
use Rattle.std.specs.Int.Bits.{and_self, and_zero_r}
use Rattle.spa_format.specs.Kind.{Kind, Fixed, kind_of, id, int, long}
use Rattle.spa_filter_elements.specs.Flags.{AreSomeOf, AreAmong, IsFlagKind}
use Rattle.spa_filter_elements.specs.Bounds.{IsShared}

-- flags and what they are among are of one kind
pub kind_of-among : (x m : Fixed) → AreAmong x m → kind_of x ≡ kind_of m
kind_of-among (id x) (id m) h = refl
kind_of-among (int x) (int m) h = refl
kind_of-among (long x) (long m) h = refl
kind_of-among (id x) _ h = absurd h
kind_of-among (int x) _ h = absurd h
kind_of-among (long x) _ h = absurd h
kind_of-among _ m h = absurd h

-- that of flags
pub IsFlagKind-among : (x m : Fixed) → AreAmong x m → IsFlagKind (kind_of x)
IsFlagKind-among (id x) m h = tt
IsFlagKind-among (int x) m h = tt
IsFlagKind-among (long x) m h = tt
IsFlagKind-among _ m h = absurd h

-- what is no flags shares nothing
pub IsShared-none : (k : Kind) → ¬ (IsFlagKind k) → (m n : Fixed) → kind_of m ≡ k → IsShared m n m
IsShared-none k never m n is =
    record {
      each = λ x. (
        λ h. absurd (never (subst IsFlagKind (kind_of-among x m h ∙ is) (IsFlagKind-among x m h))),
        λ h. h.0,
      );
    }

-- x is among both of two masks where it is among what they share
some_of-both : (x m n : ℕ) → AreSomeOf x m → AreSomeOf x n → AreSomeOf x (bit_and m n)
some_of-both x m n p q = (p.0, sym (and_assoc n x m) ∙ ap (λ y. bit_and y n) p.1 ∙ q.1)

some_of-first : (x m n : ℕ) → AreSomeOf x (bit_and m n) → AreSomeOf x m
some_of-first x m n p =
    let whole = p.1 in (
      p.0,
      ap (λ y. bit_and y m) (sym whole)
          ∙ and_assoc m x (bit_and m n)
          ∙ ap (bit_and x) (and_assoc m m n ∙ ap (bit_and m) (and_comm n m) ∙ sym (and_assoc n m m) ∙ ap (λ y. bit_and y n) (and_self m))
          ∙ whole,
    )

some_of-second : (x m n : ℕ) → AreSomeOf x (bit_and m n) → AreSomeOf x n
some_of-second x m n p = some_of-first x n m (subst (AreSomeOf x) (and_comm m n) p)

shared_each : (x m n r : ℕ) → r ≡ bit_and m n → AreSomeOf x r ↔ (AreSomeOf x m × AreSomeOf x n)
shared_each x m n r is = (
  λ h.
      let both = subst (AreSomeOf x) is h in
      (some_of-first x m n both, some_of-second x m n both),
  λ h. subst (AreSomeOf x) (sym is) (some_of-both x m n h.0 h.1),
)

id_each : (m n r : ℕ) → r ≡ bit_and m n → (x : Fixed) → AreAmong x (id r) ↔ (AreAmong x (id m) × AreAmong x (id n))
id_each m n r is (id x) = shared_each x m n r is
id_each m n r is (int x) = (λ h. absurd h, λ h. absurd h.0)
id_each m n r is (long x) = (λ h. absurd h, λ h. absurd h.0)
id_each m n r is _ = (λ h. absurd h, λ h. absurd h.0)

pub IsShared-id : (m n r : ℕ) → r ≡ bit_and m n → IsShared (id m) (id n) (id r)
IsShared-id m n r is = record { each = id_each m n r is }

int_each : (m n r : ℤ) → cast_unsigned w32 r ≡ bit_and (cast_unsigned w32 m) (cast_unsigned w32 n) → (x : Fixed) →
    AreAmong x (int r) ↔ (AreAmong x (int m) × AreAmong x (int n))
int_each m n r is (int x) = shared_each (cast_unsigned w32 x) (cast_unsigned w32 m) (cast_unsigned w32 n) (cast_unsigned w32 r) is
int_each m n r is (id x) = (λ h. absurd h, λ h. absurd h.0)
int_each m n r is (long x) = (λ h. absurd h, λ h. absurd h.0)
int_each m n r is _ = (λ h. absurd h, λ h. absurd h.0)

long_each : (m n r : ℤ) → cast_unsigned w64 r ≡ bit_and (cast_unsigned w64 m) (cast_unsigned w64 n) → (x : Fixed) →
    AreAmong x (long r) ↔ (AreAmong x (long m) × AreAmong x (long n))
long_each m n r is (long x) = shared_each (cast_unsigned w64 x) (cast_unsigned w64 m) (cast_unsigned w64 n) (cast_unsigned w64 r) is
long_each m n r is (id x) = (λ h. absurd h, λ h. absurd h.0)
long_each m n r is (int x) = (λ h. absurd h, λ h. absurd h.0)
long_each m n r is _ = (λ h. absurd h, λ h. absurd h.0)

-- the bits of a number that was made of the bits that two others share
made_bits : (w : Width) (m n z : ℤ) (a b : ℕ) → a ≡ cast_unsigned w m → b ≡ cast_unsigned w n → a < 2 ^ bits w →
    z ≡ cast_signed w (bit_and a b) →
    cast_unsigned w (cast_signed w (cast_unsigned w z)) ≡ bit_and (cast_unsigned w m) (cast_unsigned w n)
made_bits w m n z a b p q l is =
    let below : bit_and a b < 2 ^ bits w = omega (arith, and_le_l a b, l) in
    let made : cast_unsigned w z ≡ bit_and a b = ap (cast_unsigned w) is ∙ of_z-to_z w (bit_and a b) below in
    ap (λ k. cast_unsigned w (cast_signed w k)) made ∙ of_z-to_z w (bit_and a b) below
    ∙ ap (λ k. bit_and k b) p ∙ ap (bit_and (cast_unsigned w m)) q

pub IsShared-int : (m n z : ℤ) (a b : ℕ) → a ≡ cast_unsigned w32 m → b ≡ cast_unsigned w32 n → a < 2 ^ bits w32 →
    z ≡ cast_signed w32 (bit_and a b) →
    IsShared (int m) (int n) (int (cast_signed w32 (cast_unsigned w32 z)))
IsShared-int m n z a b p q l is = record { each = int_each m n _ (made_bits w32 m n z a b p q l is) }

pub IsShared-long : (m n z : ℤ) (a b : ℕ) → a ≡ cast_unsigned w64 m → b ≡ cast_unsigned w64 n → a < 2 ^ bits w64 →
    z ≡ cast_signed w64 (bit_and a b) →
    IsShared (long m) (long n) (long (cast_signed w64 (cast_unsigned w64 z)))
IsShared-long m n z a b p q l is = record { each = long_each m n _ (made_bits w64 m n z a b p q l is) }

some_of-within : (x m n : ℕ) → AreSomeOf x m → AreSomeOf m n → AreSomeOf x n
some_of-within x m n p q =
    some_of-second x m n (subst (AreSomeOf x) (sym q.1) p)

-- what is among flags that are among others is among these
pub among-within : (x m n : Fixed) → AreAmong x m → AreAmong m n → AreAmong x n
among-within (id x) (id m) (id n) p q = some_of-within x m n p q
among-within (int x) (int m) (int n) p q = some_of-within _ _ _ p q
among-within (long x) (long m) (long n) p q = some_of-within _ _ _ p q
among-within (id x) (id m) _ p q = absurd q
among-within (int x) (int m) _ p q = absurd q
among-within (long x) (long m) _ p q = absurd q
among-within (id x) _ n p q = absurd p
among-within (int x) _ n p q = absurd p
among-within (long x) _ n p q = absurd p
among-within _ m n p q = absurd p

some_of-itself : (x m : ℕ) → AreSomeOf x m → AreSomeOf m m
some_of-itself x m p =
    let none : (m ≡ 0) → x ≡ 0 = λ e. sym p.1 ∙ ap (bit_and x) e ∙ and_zero_r x in
    (λ e. p.0 (none e), and_self m)

some_of-left : (x m : ℕ) → AreSomeOf x m → AreSomeOf x x
some_of-left x m p = (p.0, and_self x)

-- flags that have some among them are among themselves,
pub among-itself : (x m : Fixed) → AreAmong x m → AreAmong m m
among-itself (id x) (id m) p = some_of-itself x m p
among-itself (int x) (int m) p = some_of-itself _ _ p
among-itself (long x) (long m) p = some_of-itself _ _ p
among-itself (id x) _ p = absurd p
among-itself (int x) _ p = absurd p
among-itself (long x) _ p = absurd p
among-itself _ m p = absurd p

-- and so are flags that are among others
pub among-left : (x m : Fixed) → AreAmong x m → AreAmong x x
among-left (id x) (id m) p = some_of-left x m p
among-left (int x) (int m) p = some_of-left _ _ p
among-left (long x) (long m) p = some_of-left _ _ p
among-left (id x) _ p = absurd p
among-left (int x) _ p = absurd p
among-left (long x) _ p = absurd p
among-left _ m p = absurd p
