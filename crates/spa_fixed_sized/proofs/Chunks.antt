-- Elements in one pass.
use Rattle.std.proofs.Common.{◌≡◌, ℕ, suc, zero, ◌*◌, ◌/◌, ◌<◌, ◌≤◌, List, length, drop, map, refl}
use Rattle.std.proofs.Common.{sym, ap, ◌∙◌, subst, arith, length-drop, Ok, Err}
use Rattle.std.specs.Prelude.{Option, Result, IfOk}
use Rattle.std.specs.declared.vec.Vec.{Vec}
use Rattle.std.proofs.lemmas.List.{length-take-le, nil_from_length}
use Rattle.std.proofs.lemmas.Iterator.{IsCollectResult, YieldsList, items_from_drains}
use Rattle.std.specs.Simd.{first_chunks}
use Rattle.spa_format.specs.Kind.{Kind, none_kind, bool_kind, id_kind, int_kind, long_kind, float_kind, double_kind, rectangle_kind, fraction_kind, fd_kind, body_size, Fixed, content}
use Rattle.spa_format.specs.Normal.{kept_elements}
use Rattle.spa_format.specs.Pod.{AreElements}
use Rattle.spa_fixed_sized.specs.Reading.{AreWhole}

-- what a function makes of the items that were collected
pub values_from_collect : {S A B Z E : Type 0} {steps : S → Option A → S → Type 0} {v : A → B}
    {s : S} {all : List B} (r : Result (Vec A Z) E) → IsCollectResult steps s r →
    YieldsList steps v s all → IfOk r (λ w. map v w.items ≡ all)
values_from_collect {v = v} (Ok w) d e = ap (map v) d.2.0 ∙ items_from_drains d.0 d.1 e
values_from_collect (Err x) d e = tt

-- each chunk is the body of what it says
chunks_say : (k : Kind) → 0 < body_size k → (n : ℕ) (b : List ℕ) → length b ≡ n * body_size k →
    AreElements k (map (content k) (first_chunks (body_size k) n b)) b
chunks_say k p zero b e = nil_from_length b (e ∙ omega arith)
chunks_say k p (suc n) b e =
    let d = length-drop (body_size k) b in
    let l : body_size k ≤ length b = grind arith in (
      p,
      record { whole = length-take-le (body_size k) b l; says = refl },
      chunks_say k p n (drop (body_size k) b) (let q : length
          (drop (body_size k) b) ≡ n * body_size k = grind arith in q),
    )

-- those of None have no bytes, and are no elements
pub elements_of_bodies : (k : Kind) (n : ℕ) (b : List ℕ) → length b ≡ n * body_size k →
    AreElements k (kept_elements k (map (content k) (first_chunks (body_size k) n b))) b
elements_of_bodies none_kind n b e = nil_from_length b (grind arith)
elements_of_bodies bool_kind n b e = chunks_say bool_kind (omega arith) n b e
elements_of_bodies id_kind n b e = chunks_say id_kind (omega arith) n b e
elements_of_bodies int_kind n b e = chunks_say int_kind (omega arith) n b e
elements_of_bodies long_kind n b e = chunks_say long_kind (omega arith) n b e
elements_of_bodies float_kind n b e = chunks_say float_kind (omega arith) n b e
elements_of_bodies double_kind n b e = chunks_say double_kind (omega arith) n b e
elements_of_bodies rectangle_kind n b e = chunks_say rectangle_kind (omega arith) n b e
elements_of_bodies fraction_kind n b e = chunks_say fraction_kind (omega arith) n b e
elements_of_bodies fd_kind n b e = chunks_say fd_kind (omega arith) n b e

-- whole bodies of a kind's size are elements
pub whole_elements : (k : Kind) (size : ℕ) (b : List ℕ) → size ≡ body_size k → AreWhole size b →
    (xs : List Fixed) × AreElements k xs b
whole_elements k size b e w = (
  kept_elements k (map (content k) (first_chunks (body_size k) w.many b)),
  elements_of_bodies k w.many b (subst (λ s. length b ≡ w.many * s) e w.count),
)

many_of : (m s l : ℕ) → 0 < s → l ≡ m * s → l ≡ l / s * s
many_of m s l p e = grind arith

pub all_say : (k : Kind) (s n : ℕ) (b : List ℕ) (xs : List Fixed) → s ≡ body_size k → s ≡ n →
    0 < n → AreWhole s b → xs ≡ map (content k) (first_chunks n (length b / n) b) →
    AreElements k xs b
all_say k s n b xs z m p w e =
    let size : n ≡ body_size k = sym m ∙ z in
    let q : 0 < body_size k = subst (λ i. 0 < i) size p in
    let c : length b ≡ w.many * body_size k = w.count ∙ ap (λ i. w.many * i) z in
    let l : length b ≡ length b / body_size k * body_size k =
    many_of w.many (body_size k) (length b) q c in
    subst (λ ys. AreElements k ys b)
    (sym (e ∙ ap (λ i. map (content k) (first_chunks i (length b / i) b)) size))
    (chunks_say k q (length b / body_size k) b l)
