-- A value's shape, from its type number.
use Rattle.std.proofs.Common.{◌≡◌, ◌≢◌, ◌<◌, ◌≤◌, ◌∙◌, ℕ, inl, inr, refl, sym, ap, arith, List}
use Rattle.spa_format.specs.Kind.{Kind, type_number, Fixed, kind_of}
use Rattle.spa_format.specs.Tree.{Shape, Tree, fixed, string, bytes, bitmap, array, choice, pointer, struct, object, Trees, Properties, type_of, node_count}
use Rattle.spa_format.proofs.FixedKinds.{same_kind, number_is}

-- numbers of no kind that has a fixed size
other_8 : (k : Kind) → type_number k ≢ 8
other_8 k e = let i = number_is k in grind arith

other_9 : (k : Kind) → type_number k ≢ 9
other_9 k e = let i = number_is k in grind arith

other_12 : (k : Kind) → type_number k ≢ 12
other_12 k e = let i = number_is k in grind arith

other_13 : (k : Kind) → type_number k ≢ 13
other_13 k e = let i = number_is k in grind arith

other_14 : (k : Kind) → type_number k ≢ 14
other_14 k e = let i = number_is k in grind arith

other_15 : (k : Kind) → type_number k ≢ 15
other_15 k e = let i = number_is k in grind arith

other_17 : (k : Kind) → type_number k ≢ 17
other_17 k e = let i = number_is k in grind arith

other_19 : (k : Kind) → type_number k ≢ 19
other_19 k e = let i = number_is k in grind arith

pub string_only : (w : Tree) → type_of w ≡ 8 → (s : List ℕ) × (w ≡ string s)
string_only (fixed x) e = absurd (other_8 (kind_of x) e)
string_only (string s) e = (s, refl)
string_only _ e = absurd (omega arith)

pub bytes_only : (w : Tree) → type_of w ≡ 9 → (s : List ℕ) × (w ≡ bytes s)
bytes_only (fixed x) e = absurd (other_9 (kind_of x) e)
bytes_only (bytes s) e = (s, refl)
bytes_only _ e = absurd (omega arith)

pub bitmap_only : (w : Tree) → type_of w ≡ 12 → (s : List ℕ) × (w ≡ bitmap s)
bitmap_only (fixed x) e = absurd (other_12 (kind_of x) e)
bitmap_only (bitmap s) e = (s, refl)
bitmap_only _ e = absurd (omega arith)

pub array_only : (w : Tree) → type_of w ≡ 13 → (k : Kind) × (xs : List Fixed) × (w ≡ array k xs)
array_only (fixed x) e = absurd (other_13 (kind_of x) e)
array_only (array k xs) e = (k, xs, refl)
array_only _ e = absurd (omega arith)

pub struct_only : (w : Tree) → type_of w ≡ 14 → (vs : Trees) × (w ≡ struct vs)
struct_only (fixed x) e = absurd (other_14 (kind_of x) e)
struct_only (struct vs) e = (vs, refl)
struct_only _ e = absurd (omega arith)

pub object_only : (w : Tree) → type_of w ≡ 15 → (t : ℕ) × (i : ℕ) × (ps : Properties) × (w ≡ object t i ps)
object_only (fixed x) e = absurd (other_15 (kind_of x) e)
object_only (object t i ps) e = (t, i, ps, refl)
object_only _ e = absurd (omega arith)

pub pointer_only : (w : Tree) → type_of w ≡ 17 → (t : ℕ) × (a : ℕ) × (w ≡ pointer t a)
pointer_only (fixed x) e = absurd (other_17 (kind_of x) e)
pointer_only (pointer t a) e = (t, a, refl)
pointer_only _ e = absurd (omega arith)

pub choice_only : (w : Tree) → type_of w ≡ 19 → (s : Shape) × (f : ℕ) × (k : Kind) × (x : Fixed) × (xs : List Fixed) × (w ≡ choice s f k x xs)
choice_only (fixed x) e = absurd (other_19 (kind_of x) e)
choice_only (choice s f k x xs) e = (s, f, k, x, xs, refl)
choice_only _ e = absurd (omega arith)

pub fixed_only : (w : Tree) (k : Kind) → type_of w ≡ type_number k → (y : Fixed) × (kind_of y ≡ k) × (w ≡ fixed y)
fixed_only (fixed y) k e = (y, same_kind (kind_of y) k e, refl)
fixed_only (string s) k e = absurd (other_8 k (sym e))
fixed_only (bytes s) k e = absurd (other_9 k (sym e))
fixed_only (bitmap s) k e = absurd (other_12 k (sym e))
fixed_only (array l xs) k e = absurd (other_13 k (sym e))
fixed_only (choice s f l x xs) k e = absurd (other_19 k (sym e))
fixed_only (pointer t a) k e = absurd (other_17 k (sym e))
fixed_only (struct vs) k e = absurd (other_14 k (sym e))
fixed_only (object t i ps) k e = absurd (other_15 k (sym e))

-- a value has one pod at least
pub some_node : (v : Tree) → 1 ≤ node_count v
some_node (fixed x) = omega arith
some_node (string s) = omega arith
some_node (bytes s) = omega arith
some_node (bitmap s) = omega arith
some_node (array k xs) = omega arith
some_node (choice s f k x xs) = omega arith
some_node (pointer t a) = omega arith
some_node (struct vs) = omega arith
some_node (object t i ps) = omega arith

-- a type number past those of fixed size
pub not_fixed : (v : Tree) (n : ℕ) → type_of v ≡ n → 11 < n → n ≢ 18 → (x : Fixed) → v ≢ fixed x
not_fixed v n t a b x e =
    let u : type_of v ≡ type_number (kind_of x) = ap type_of e in
    elim (number_is (kind_of x)) [
      | inl l ↦ (let m = l.1 in omega arith)
      | inr (inl l) ↦ (let m = l.1 in omega arith)
      | inr (inr r) ↦ b (sym t ∙ u ∙ r)
    ]
