-- Lists of members, cut at one of them, and how long their encodings are.
use Rattle.std.proofs.Common.{◌≡◌, ℕ, ◌+◌, ◌<◌, ◌≤◌, inl, inr, ⊎_elim, List, [], ◌∷◌, ◌++◌, length, take, drop, get_or, Vec, Global, refl, sym, ap, ◌∙◌, subst, arith, length-append}
use Rattle.std.proofs.lemmas.List.{append-nil}
use Rattle.spa_sink.specs.declared.gen_error.GenError.{GenError}
use Rattle.spa_sink.specs.declared.gen_error.GenError.TheVariants.{TooLarge}
use Rattle.spa_format.specs.Words.{header_size, size_limit}
use Rattle.spa_format.specs.Tree.{Tree, struct, struct_type, Trees, no_trees, member, join_members}
use Rattle.spa_format.specs.Encoding.{encoding_of, member_encodings}
use Rattle.spa_format.specs.Typed.{AllTyped, IsTyped}
use Rattle.spa_format.specs.Writable.{IsTooLarge, IsWritable, SomeHasNul, SomeTooLarge}
use Rattle.spa_value.specs.declared.value.Value.{Value}
use Rattle.spa_value.specs.declared.value.Value.TheVariants as V
use Rattle.spa_value.specs.View.{view}
use Rattle.spa_value.specs.Views.{views}
use Rattle.spa_value.proofs.ViewLaws.{view-struct, views-at, views-take_more}
use Rattle.spa_write.specs.Measured.{AreMeasured, IsMeasured, RefusesTree}
use Rattle.spa_format.proofs.Encodings.{length-encoded_pod, whole_members, member_encodings-join}
use Rattle.spa_bodies.proofs.Frames.{size_refused}
use Rattle.spa_bodies.proofs.SinkRefusals.{unwritable_through}

-- the tree of a struct, from its members as a slice
pub struct_of : (ms : Vec Value Global) {v : Value} {slice : List Value} → v ≡ V.Struct ms → slice ≡ ms.items →
    view v ≡ struct (views slice)
struct_of ms is same = ap view is ∙ view-struct ms ∙ ap (λ l. struct (views l)) (sym same)

-- Two lists behind one another.

pub typed_join : (vs ws : Trees) → AllTyped vs → AllTyped ws → AllTyped (join_members vs ws)
typed_join no_trees ws h k = k
typed_join (member v vs) ws h k = (h.0, typed_join vs ws h.1 k)

nul_join : (vs ws : Trees) → ¬ (SomeHasNul vs) → ¬ (SomeHasNul ws) → ¬ (SomeHasNul (join_members vs ws))
nul_join no_trees ws h k n = k n
nul_join (member v vs) ws h k n = ⊎_elim (λ x. h (inl x)) (nul_join vs ws (λ x. h (inr x)) k) n

large_join : (vs ws : Trees) → ¬ (SomeTooLarge vs) → ¬ (SomeTooLarge ws) →
    ¬ (SomeTooLarge (join_members vs ws))
large_join no_trees ws h k n = k n
large_join (member v vs) ws h k n = ⊎_elim (λ x. h (inl x)) (large_join vs ws (λ x. h (inr x)) k) n

nul_behind : (vs ws : Trees) → SomeHasNul ws → SomeHasNul (join_members vs ws)
nul_behind no_trees ws h = h
nul_behind (member v vs) ws h = inr (nul_behind vs ws h)

large_behind : (vs ws : Trees) → SomeTooLarge ws → SomeTooLarge (join_members vs ws)
large_behind no_trees ws h = h
large_behind (member v vs) ws h = inr (large_behind vs ws h)

-- One member of a list.

-- the encodings of those before it, its own, and those of the others
pub members_cut : (vs : List Value) (i : ℕ) (v : Value) → i < length vs → v ≡ get_or vs i v →
    member_encodings (views vs) ≡ member_encodings (views (take i vs)) ++ (encoding_of (view v) ++ member_encodings (views (drop (i + 1) vs)))
members_cut vs i v l e =
    ap member_encodings (views-at vs i v l e)
    ∙ member_encodings-join (views (take i vs)) (member (view v) (views (drop (i + 1) vs)))

-- the encodings up to it
pub members_next : (vs : List Value) (i : ℕ) (v : Value) → i < length vs → v ≡ get_or vs i v →
    member_encodings (views (take (i + 1) vs)) ≡ member_encodings (views (take i vs)) ++ encoding_of (view v)
members_next vs i v l e =
    let first = views (take i vs) in
    ap member_encodings (views-take_more vs i v l e)
    ∙ member_encodings-join first (member (view v) no_trees)
    ∙ ap (λ x. member_encodings first ++ x) (append-nil (encoding_of (view v)))

pub members_next_typed : (vs : List Value) (i : ℕ) (v : Value) → i < length vs → v ≡ get_or vs i v →
    AllTyped (views (take i vs)) → IsTyped (view v) → AllTyped (views (take (i + 1) vs))
members_next_typed vs i v l e h k =
    subst AllTyped (sym (views-take_more vs i v l e))
    (typed_join (views (take i vs)) (member (view v) no_trees) h (k, tt))

-- how many bytes they have
pub members_length : (vs : List Value) (i : ℕ) (v : Value) → i < length vs → v ≡ get_or vs i v →
    length (member_encodings (views vs)) ≡ length (member_encodings (views (take i vs))) + length (encoding_of (view v)) + length (member_encodings (views (drop (i + 1) vs)))
members_length vs i v l e =
    let before = member_encodings (views (take i vs)) in
    let behind = member_encodings (views (drop (i + 1) vs)) in
    omega (
      arith,
      ap length (members_cut vs i v l e),
      length-append before (encoding_of (view v) ++ behind),
      length-append (encoding_of (view v)) behind,
    )

-- the only one
pub only_member : (vs : List Value) (v : Value) → length vs ≡ 1 → v ≡ get_or vs 0 v →
    views vs ≡ member (view v) no_trees
only_member [] v l e = absurd (omega (arith, l))
only_member (w ∷ []) v l e = ap (λ x. member (view x) no_trees) (sym e)
only_member (w ∷ x ∷ vs) v l e = absurd (omega (arith, l))

pub only_encoding : (vs : List Value) (v : Value) → length vs ≡ 1 → v ≡ get_or vs 0 v →
    member_encodings (views vs) ≡ encoding_of (view v)
only_encoding vs v l e = ap member_encodings (only_member vs v l e) ∙ append-nil (encoding_of (view v))

pub writable_there : (vs : List Value) (i : ℕ) (v : Value) → i < length vs → v ≡ get_or vs i v →
    IsWritable (struct (views vs)) → IsWritable (view v)
writable_there vs i v l e w =
    let first = views (take i vs) in
    let rest = member (view v) (views (drop (i + 1) vs)) in
    let at = views-at vs i v l e in
    record {
      no_nul = λ n. w.no_nul (subst SomeHasNul (sym at) (nul_behind first rest (inl n)));
      fits = λ n. w.fits (inr (subst SomeTooLarge (sym at) (large_behind first rest (inl n))));
    }

-- Measured one by one.

pub measured_none : AreMeasured no_trees 0
measured_none = record {
  size = refl;
  short = omega arith;
  writable = record { no_nul = λ n. n; fits = ⊎_elim (λ n. omega (arith, n)) (λ n. n) };
}

pub measured_next : (vs : List Value) (i : ℕ) (v : Value) (n m k : ℕ) → i < length vs → v ≡ get_or vs i v →
    AreMeasured (views (take i vs)) n → IsMeasured (view v) m → k ≡ n + m → k < size_limit →
    AreMeasured (views (take (i + 1) vs)) k
measured_next vs i v n m k l e h w sum short =
    let first = views (take i vs) in
    let last = member (view v) no_trees in
    let more = views-take_more vs i v l e in
    let size : k ≡ length (member_encodings (views (take (i + 1) vs))) =
    omega (arith, sum, h.size, w.size, ap length (members_next vs i v l e), length-append (member_encodings first) (encoding_of (view v))) in
    let nul : ¬ (SomeHasNul (join_members first last)) =
    nul_join first last h.writable.no_nul (⊎_elim w.writable.no_nul (λ x. x)) in
    let large : ¬ (SomeTooLarge (join_members first last)) =
    large_join first last (λ x. h.writable.fits (inr x)) (⊎_elim w.writable.fits (λ x. x)) in
    record {
      size = size;
      short = short;
      writable = record {
        no_nul = λ x. nul (subst SomeHasNul more x);
        fits = ⊎_elim (λ x. omega (arith, x, size, short)) (λ x. large (subst SomeTooLarge more x));
      };
    }

-- the refusal of one
pub member_unwritable : (vs : List Value) (i : ℕ) (v : Value) → i < length vs → v ≡ get_or vs i v →
    (e : GenError) → RefusesTree (view v) e → RefusesTree (struct (views vs)) e
member_unwritable vs i v l e x r =
    let first = views (take i vs) in
    let rest = member (view v) (views (drop (i + 1) vs)) in
    let at = views-at vs i v l e in
    unwritable_through (λ n. subst SomeHasNul (sym at) (nul_behind first rest (inl n)))
    (λ n. inr (subst SomeTooLarge (sym at) (large_behind first rest (inl n)))) x r

-- the refusal of the sum
pub members_too_long : (vs : List Value) (i : ℕ) (v : Value) (n m : ℕ) → i < length vs → v ≡ get_or vs i v →
    AreMeasured (views (take i vs)) n → IsMeasured (view v) m → (e : GenError) →
    (e ≡ TooLarge) × (size_limit ≤ n + m) →
    RefusesTree (struct (views vs)) e
members_too_long vs i v n m l e h w x r =
    size_refused (SomeHasNul (views vs)) (IsTooLarge (struct (views vs))) (λ _. ⊥) (size_limit ≤ n + m)
    (λ big. inl (omega (arith, big, h.size, w.size, members_length vs i v l e))) x r

-- a struct of measured members
pub struct_measured : (v : Tree) (vs : Trees) (n : ℕ) → v ≡ struct vs → AreMeasured vs n →
    IsMeasured v (header_size + n)
struct_measured v vs n is h =
    subst (λ w. IsMeasured w (header_size + n)) (sym is) (record {
      size = omega (arith, h.size, length-encoded_pod struct_type (member_encodings vs), whole_members vs);
      writable = h.writable;
    })

-- the refusal of its members
pub struct_unwritable : (v : Tree) (vs : Trees) → v ≡ struct vs → (e : GenError) →
    RefusesTree (struct vs) e → RefusesTree v e
struct_unwritable v vs is e r = subst (λ w. RefusesTree w e) (sym is) r
