-- What the tests and getters of a view find in an accepted pod.
use Rattle.std.proofs.Common.{◌≡◌, ℕ, suc, ◌-◌, inl, inr, List, [], ◌∷◌, ◌++◌, length, sym, ap, ◌∙◌, arith, length-append, length-drop}
use Rattle.std.specs.Prelude.{◌==◌, cond, not, Contains, slice_index}
use Rattle.std.proofs.Math.Seq.{get_or-append_seam}
use Rattle.std.proofs.lemmas.Bool.{ne_eqb}
use Rattle.std.proofs.lemmas.List.Sums.{take_while-cons}
use Rattle.std.specs.List.{take_while}
use Rattle.spa_format.specs.Words.{word_at, body_of}
use Rattle.spa_format.specs.Kind.{Kind, Fixed, kind_of, content}
use Rattle.spa_format.specs.Tree.{Shape, Trees, Properties, fixed, string, bytes, array, choice, pointer, struct, object}
use Rattle.spa_format.specs.Pod.{IsPod}
use Rattle.spa_format.proofs.Short.{length_of_body}
use Rattle.spa_view.specs.Tests as t

pub fixed_test : (b : List ℕ) (x : Fixed) → IsPod b (fixed x) → t.IsOfKind (kind_of x) b
fixed_test b x h = (h.its_type, sym (length_of_body b _ _ h) ∙ h.content.whole)

pub fixed_value : (b : List ℕ) (x : Fixed) → IsPod b (fixed x) → content (kind_of x) (body_of b) ≡ x
fixed_value b x h = sym h.content.says

-- the text before the first NUL
pub before_nul-ended : (s r : List ℕ) → ¬ (Contains s 0) → t.before_nul (s ++ 0 ∷ r) ≡ s
before_nul-ended [] r h = take_while-cons (λ y. not (y == 0)) 0 r
before_nul-ended (x ∷ s) r h =
    let ne : x ≡ 0 → ⊥ = λ e. h (0, omega arith, e) in
    let rest : ¬ (Contains s 0) = λ m. h (suc m.0, let l = m.1 in omega arith, m.2) in
    take_while-cons (λ y. not (y == 0)) x (s ++ 0 ∷ r)
    ∙ ap (λ z. cond (not z) (x ∷ take_while (λ y. not (y == 0)) (s ++ 0 ∷ r)) []) (ne_eqb x 0 ne)
    ∙ ap (λ z. x ∷ z) (before_nul-ended s r rest)

pub string_test : (b s : List ℕ) → IsPod b (string s) → t.IsNulEnded b
string_test b s h =
    let e = h.content.1 in
    let n = length_of_body b _ _ h in
    let l = ap length e in
    let a = length-append s (0 ∷ []) in
    let last : word_at b 0 - 1 ≡ length s = omega arith in
    ((h.its_type, omega arith), ap (λ z. slice_index z (word_at b 0 - 1)) e ∙ ap (slice_index (s ++ 0 ∷ [])) last ∙ get_or-append_seam s 0 [] 0)

pub string_value : (b s : List ℕ) → IsPod b (string s) → t.before_nul (body_of b) ≡ s
string_value b s h = ap t.before_nul h.content.1 ∙ before_nul-ended s [] h.content.0.no_nul

pub bytes_test : (b s : List ℕ) → IsPod b (bytes s) → t.IsBytesPod b
bytes_test b s h = h.its_type

pub bytes_value : (b s : List ℕ) → IsPod b (bytes s) → body_of b ≡ s
bytes_value b s h = h.content

pub pointer_test : (b : List ℕ) (type a : ℕ) → IsPod b (pointer type a) → t.IsPointerPod b
pointer_test b type a h =
    let n = length_of_body b _ _ h in
    (h.its_type, elim h.content.1 [ inl q ↦ inl (sym n ∙ q.0) | inr q ↦ inr (sym n ∙ q.0) ])

pub pointer_type : (b : List ℕ) (type a : ℕ) → IsPod b (pointer type a) → word_at (body_of b) 0 ≡ type
pointer_type b type a h = sym h.content.0

pub pointer_address : (b : List ℕ) (type a c : ℕ) → IsPod b (pointer type a) → t.IsAddress c b → c ≡ a
pointer_address b type a c h i =
    let n = length_of_body b _ _ h in
    elim h.content.1 [
      | inl q ↦ i.0 (sym n ∙ q.0) ∙ sym q.1
      | inr q ↦ i.1 (sym n ∙ q.0) ∙ sym q.1
    ]

pub array_test : (b : List ℕ) (k : Kind) (xs : List Fixed) → IsPod b (array k xs) → t.IsArrayPod b
array_test b k xs h = let n = length_of_body b _ _ h in let l = h.content.header in (h.its_type, omega arith)

pub choice_test : (b : List ℕ) (s : Shape) (f : ℕ) (k : Kind) (x : Fixed) (xs : List Fixed) →
    IsPod b (choice s f k x xs) → t.IsChoicePod b
choice_test b s f k x xs h =
    let n = length_of_body b _ _ h in
    let l = h.content.values.header in
    let d = length-drop 8 (body_of b) in
    (h.its_type, omega arith)

pub struct_test : (b : List ℕ) (vs : Trees) → IsPod b (struct vs) → t.IsStructPod b
struct_test b vs h = h.its_type

pub object_test : (b : List ℕ) (type id : ℕ) (ps : Properties) → IsPod b (object type id ps) → t.IsObjectPod b
object_test b type id ps h = let n = length_of_body b _ _ h in let l = h.content.0 in (h.its_type, omega arith)

pub object_type : (b : List ℕ) (type id : ℕ) (ps : Properties) → IsPod b (object type id ps) →
    word_at (body_of b) 0 ≡ type
object_type b type id ps h = sym h.content.1

pub object_id : (b : List ℕ) (type id : ℕ) (ps : Properties) → IsPod b (object type id ps) →
    word_at (body_of b) 4 ≡ id
object_id b type id ps h = sym h.content.2
