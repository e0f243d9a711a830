-- Bodies: texts, elements, arrays, choices.
use Rattle.std.proofs.Common.{◌≡◌, ◌≢◌, ℕ, ◌+◌, ◌*◌, ◌<◌, ◌≤◌, ◌-◌, ◌/◌, List, [], ◌∷◌, ◌++◌, length, take, drop, zero, suc, refl, sym, ap, ◌∙◌, subst, arith, length-drop}
use Rattle.std.proofs.lemmas.List.{length-take-le, nil_from_length, take-append-drop, take_all}
use Rattle.std.proofs.Math.Nat.{mul-div_cancel}
use Rattle.spa_format.specs.Words.{word_at}
use Rattle.spa_format.specs.Kind.{Kind, bool_kind, Fixed, body_size, type_number, content, fixed_body}
use Rattle.spa_format.specs.Tree.{string, string_type, array, choice, choice_type, array_type, Shape, none_choice, range_choice, step_choice, enum_choice, flags_choice, shape_number}
use Rattle.spa_format.specs.Pod.{IsArray, least_count, values_taken}
use Rattle.spa_format.specs.Normal.{kept_flags}
use Rattle.spa_format.specs.Encoding.{array_body}
use Rattle.spa_format.specs.Typed.{IsBytes, IsCount}
use Rattle.spa_format.proofs.WordLemmas.{IsBytes-drop, IsBytes-take, word_at-take}
use Rattle.spa_format.proofs.FixedKinds.{same_kind}
use Rattle.spa_format.proofs.Elements.{length_of_elements}
use Rattle.spa_canonical.specs.Canonical.{AreCanonicalElements, IsCanonicalBody, IsCanonicalText, bytes_taken}
use Rattle.spa_canonical.proofs.Words.{content_kept, two_words_then}

-- the body of an array that is as its elements are written
pub record IsCanonicalArray (b : List ℕ) : Type 0 where
  pub kind : Kind
  pub values : List Fixed
  pub its_array : IsArray kind values b
  pub same : b ≡ array_body kind values

-- one more element
pub one_element : (k : Kind) (b : List ℕ) → IsBytes b → 0 < body_size k → body_size k ≤ length b → (k ≡ bool_kind → word_at b 0 < 2) → AreCanonicalElements k (drop (body_size k) b) → AreCanonicalElements k b
one_element k b h p l t c =
    let s = body_size k in
    let first = take s b in
    let long : length first ≡ s = length-take-le s b l in
    let small : k ≡ bool_kind → word_at first 0 < 2 = λ e.
    let four : s ≡ 4 = ap body_size e in
    subst (λ x. x < 2) (sym (word_at-take s 0 b (omega arith))) (t e) in
    let same = content_kept k first (IsBytes-take s b h) long small in
    record {
      values = content k first ∷ c.values;
      elements = (p, record { whole = long; says = refl }, c.elements);
      same = sym (take-append-drop s b) ∙ ap (λ x. x ++ drop s b) same ∙ ap (λ x. fixed_body (content k first) ++ x) c.same;
    }

pub no_elements : (k : Kind) (b : List ℕ) → length b ≡ 0 → AreCanonicalElements k b
no_elements k b e = let z = nil_from_length b e in record { values = []; elements = z; same = z }

-- whole elements of a kind other than Bool
pub whole_elements : (k : Kind) (n : ℕ) (b : List ℕ) → IsBytes b → k ≢ bool_kind → 0 < body_size k → length b ≡ n * body_size k → AreCanonicalElements k b
whole_elements k zero b h f p l = no_elements k b (omega arith)
whole_elements k (suc n) b h f p l =
    let s = body_size k in
    let m : suc n * s ≡ s + n * s = omega arith in
    let d = length-drop s b in
    one_element k b h p (omega arith) (λ e. absurd (f e)) (whole_elements k n (drop s b) (IsBytes-drop s b h) f p (omega arith))

pub array_of : (k : Kind) (b : List ℕ) → IsBytes b → 8 ≤ length b → word_at b 0 ≡ body_size k → word_at b 4 ≡ type_number k → AreCanonicalElements k (drop 8 b) → IsCanonicalArray b
array_of k b h l e0 e4 c = record {
  kind = k;
  values = c.values;
  its_array = record { header = l; child_size = e0; child_type = e4; elements = c.elements };
  same = two_words_then b _ _ _ h l e0 e4 c.same;
}

pub array_body_of : (b : List ℕ) → IsCanonicalArray b → IsCanonicalBody array_type b
array_body_of b a = record { value = array a.kind a.values; its_type = refl; its_body = a.its_array; same = a.same }

pub text_body_of : (type : ℕ) (b : List ℕ) → type ≡ string_type → IsCanonicalText b → IsCanonicalBody type b
text_body_of type b t s = record { value = string s.0; its_type = sym t; its_body = (s.1, s.2); same = s.2 }

pub bools_found : (k : Kind) (number : ℕ) (b : List ℕ) → number ≡ type_number k → number ≡ 2 → AreCanonicalElements bool_kind b → AreCanonicalElements k b
bools_found k number b n e c = subst (λ y. AreCanonicalElements y b) (same_kind bool_kind k (sym e ∙ n)) c

same_count : (n m s : ℕ) → 0 < s → n * s ≡ m * s → n ≡ m
same_count n m s p e = sym (mul-div_cancel n p) ∙ ap (λ x. x / s) e ∙ mul-div_cancel m p

-- what the values of a choice have to be
abbrev pub IsRightCount : Shape → ℕ → Type 0
IsRightCount s n = (least_count s ≤ suc n) × ((xs : List Fixed) → length xs ≡ n → values_taken s xs ≡ xs)

choice_values : (s : Shape) (b : List ℕ) → IsBytes b → 16 < length b → (k : Kind) (ys : List Fixed) → IsArray k ys (drop 8 b) → drop 8 b ≡ array_body k ys → word_at b 0 ≡ shape_number s → kept_flags s (word_at b 4) ≡ word_at b 4 → ((n : ℕ) → length b - 16 ≡ suc n * body_size k → 0 < body_size k → IsRightCount s n) → IsCanonicalBody choice_type b
choice_values s b h l k [] a e w f c =
    let z = ap length a.elements in
    let d = length-drop 8 (drop 8 b) in
    let d' = length-drop 8 b in
    absurd (omega arith)
choice_values s b h l k (x ∷ xs) a e w f c =
    let n = length_of_elements k (x ∷ xs) (drop 8 (drop 8 b)) a.elements in
    let d = length-drop 8 (drop 8 b) in
    let d' = length-drop 8 b in
    let size : length b - 16 ≡ suc (length xs) * body_size k = omega arith in
    let count = c (length xs) size a.elements.0 in
    record {
      value = choice s (word_at b 4) k x xs;
      its_type = refl;
      its_body = record { header = omega arith; shape = w; flags = sym f; all = xs; values = a; enough = count.0; first = sym (count.1 xs refl) };
      same = two_words_then b _ _ _ h (omega arith) w refl e;
    }

pub choice_found : (s : Shape) (b arr : List ℕ) → IsBytes b → 16 < length b → arr ≡ drop 8 b → (a : IsCanonicalArray arr) → word_at b 0 ≡ shape_number s → kept_flags s (word_at b 4) ≡ word_at b 4 → ((n k : ℕ) → k ≡ word_at arr 0 → 0 < k → length b - 16 ≡ suc n * k → IsRightCount s n) → IsCanonicalBody choice_type b
choice_found s b arr h l d a w f c =
    let size : body_size a.kind ≡ word_at arr 0 = sym a.its_array.child_size in
    choice_values s b h l a.kind a.values (subst (IsArray a.kind a.values) d a.its_array) (sym d ∙ a.same) w f
    (λ n e p. c n (body_size a.kind) size p e)

pub right_count : (s : Shape) (n k all : ℕ) → 0 < k → all ≡ suc n * k → bytes_taken s k all ≡ all → IsRightCount s n
right_count none_choice n k all p e i =
    let one : suc n ≡ 1 = same_count (suc n) 1 k p (sym e ∙ sym i ∙ (let y : k ≡ 1 * k = omega arith in y)) in
    (omega arith, λ xs h. sym (nil_from_length xs (omega arith)))
right_count range_choice n k all p e i =
    let three : suc n ≡ 3 = same_count (suc n) 3 k p (sym e ∙ sym i) in
    (omega arith, λ xs h. take_all 2 xs (omega arith))
right_count step_choice n k all p e i =
    let four : suc n ≡ 4 = same_count (suc n) 4 k p (sym e ∙ sym i) in
    (omega arith, λ xs h. take_all 3 xs (omega arith))
right_count enum_choice n k all p e i = (omega arith, λ xs h. refl)
right_count flags_choice n k all p e i = (omega arith, λ xs h. refl)

pub count_taken : (s : Shape) (n k all : ℕ) → IsCount s n → all ≡ suc n * k → bytes_taken s k all ≡ all
count_taken none_choice n k all c e = let m : all ≡ 1 * k = e ∙ ap (λ i. suc i * k) c in omega arith
count_taken range_choice n k all c e = sym (e ∙ ap (λ i. suc i * k) c)
count_taken step_choice n k all c e = sym (e ∙ ap (λ i. suc i * k) c)
count_taken enum_choice n k all c e = refl
count_taken flags_choice n k all c e = refl

-- a shape that there is
pub shape_of : (n : ℕ) → n < 5 → (s : Shape) × (n ≡ shape_number s)
shape_of zero l = (none_choice, refl)
shape_of (suc zero) l = (range_choice, refl)
shape_of (suc (suc zero)) l = (step_choice, refl)
shape_of (suc (suc (suc zero))) l = (enum_choice, refl)
shape_of (suc (suc (suc (suc zero)))) l = (flags_choice, refl)
shape_of (suc (suc (suc (suc (suc n))))) l = absurd (omega arith)
