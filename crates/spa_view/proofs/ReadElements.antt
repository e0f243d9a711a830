-- The values in bytes, one after another.
use Rattle.std.proofs.Common.{◌≡◌, ℕ, suc, zero, ◌+◌, ◌*◌, ◌-◌, ◌/◌, ◌<◌, ◌≤◌, List, [], ◌∷◌, length, take, drop, map, sym, ap, ◌∙◌, subst, arith, length-drop, length-take}
use Rattle.std.specs.Prelude.{Some}
use Rattle.std.specs.Simd.{first_chunks}
use Rattle.std.proofs.Math.Nat.{div-eq-sub-div, zero-div, mul-div_cancel}
use Rattle.std.proofs.lemmas.List.{drop-take, take-take}
use Rattle.spa_format.specs.Words.{word_at}
use Rattle.spa_format.specs.Kind.{Kind, Fixed, body_size, content, IsFixedBody}
use Rattle.spa_format.specs.Tree.{Shape, shape_number, none_choice, range_choice, step_choice, enum_choice, flags_choice}
use Rattle.spa_format.specs.Pod.{AreElements, IsArray, IsChoice, least_count, values_taken}
use Rattle.spa_fixed_sized.specs.Choices.{count_taken}
use Rattle.spa_format.proofs.Elements.{length_of_elements}
use Rattle.spa_format.proofs.WordLemmas.{word_at-take}
use Rattle.spa_view.specs.Elements.{values_in, element_count, first_elements, choice_values}

one_more : (n s : ℕ) → 0 < s → s ≤ n → n / s ≡ suc ((n - s) / s)
one_more n s p l = let e = div-eq-sub-div p l in omega (arith, e)

pub values_in-next : (k : Kind) (b : List ℕ) → 0 < body_size k → body_size k ≤ length b →
    values_in k b ≡ content k (take (body_size k) b) ∷ values_in k (drop (body_size k) b)
values_in-next k b p l =
    let s = body_size k in
    let d = length-drop s b in
    ap (λ n. map (content k) (first_chunks s n b)) (one_more (length b) s p l)
    ∙ ap (λ n. content k (take s b) ∷ map (content k) (first_chunks s (n / s) (drop s b))) (sym d)

pub elements_read : (k : Kind) (xs : List Fixed) (b : List ℕ) → AreElements k xs b → values_in k b ≡ xs
elements_read k [] b h =
    ap (λ n. map (content k) (first_chunks (body_size k) n b)) (ap (λ l. length l / body_size k) h ∙ zero-div (body_size k))
elements_read k (x ∷ xs) b h =
    let w = h.1.whole in
    let t = length-take (body_size k) b in
    values_in-next k b h.0 (omega arith)
    ∙ ap (λ y. y ∷ values_in k (drop (body_size k) b)) (sym h.1.says)
    ∙ ap (λ ys. x ∷ ys) (elements_read k xs (drop (body_size k) b) h.2)

-- how many elements an array has
all_counted : (k : Kind) (xs : List Fixed) (b : List ℕ) → AreElements k xs b → length xs * body_size k / body_size k ≡ length xs
all_counted k [] b h = ap (λ n. n / body_size k) (let e : 0 * body_size k ≡ 0 = omega arith in e) ∙ zero-div (body_size k)
all_counted k (x ∷ xs) b h = mul-div_cancel (length (x ∷ xs)) h.0

pub counted : (k : Kind) (xs : List Fixed) (b : List ℕ) → IsArray k xs b → element_count b ≡ length xs
counted k xs b h =
    let d = length-drop 8 b in
    let n = length_of_elements k xs (drop 8 b) h.elements in
    ap (λ s. (length b - 8) / s) h.child_size
    ∙ ap (λ l. l / body_size k) (sym d ∙ n)
    ∙ all_counted k xs (drop 8 b) h.elements

-- The values of a choice.

first_values : (n : ℕ) (k : Kind) (xs : List Fixed) (b : List ℕ) → AreElements k xs b → n ≤ length xs →
    AreElements k (take n xs) (take (n * body_size k) b)
first_values zero k xs b h l = ap (λ n. take n b) (let e : 0 * body_size k ≡ 0 = omega arith in e)
first_values (suc n) k [] b h l = absurd (omega arith)
first_values (suc n) k (x ∷ xs) b h l =
    let s = body_size k in
    let m = n * s in
    let e : suc n * s ≡ s + m = grind arith in
    subst (λ j. AreElements k (x ∷ take n xs) (take j b)) (sym e) (
      h.0,
      subst (λ c. IsFixedBody k c x) (sym (take-take s (s + m) b (omega arith))) h.1,
      subst (AreElements k (take n xs)) (sym (drop-take s m b)) (first_values n k xs (drop s b) h.2 (omega arith)),
    )

first_array : (n : ℕ) (k : Kind) (xs : List Fixed) (b : List ℕ) → IsArray k xs b → n ≤ length xs → IsArray k (take n xs) (first_elements (Some n) b)
first_array n k xs b h l =
    let m = n * word_at b 0 in
    let t = length-take (8 + m) b in
    let head = h.header in
    let e : drop 8 (take (8 + m) b) ≡ take (n * body_size k) (drop 8 b) = drop-take 8 m b ∙ ap (λ s. take (n * s) (drop 8 b)) h.child_size in
    record {
      header = omega (arith, t, head);
      child_size = word_at-take (8 + m) 0 b (omega arith) ∙ h.child_size;
      child_type = word_at-take (8 + m) 4 b (omega arith) ∙ h.child_type;
      elements = subst (AreElements k (take n xs)) (sym e) (first_values n k xs (drop 8 b) h.elements l);
    }

taken_array : (s : Shape) (k : Kind) (x : Fixed) (xs : List Fixed) (b : List ℕ) → IsArray k (x ∷ xs) b → least_count s ≤ length (x ∷ xs) →
    IsArray k (x ∷ values_taken s xs) (first_elements (count_taken (shape_number s)) b)
taken_array none_choice k x xs b h l = first_array 1 k (x ∷ xs) b h l
taken_array range_choice k x xs b h l = first_array 3 k (x ∷ xs) b h l
taken_array step_choice k x xs b h l = first_array 4 k (x ∷ xs) b h l
taken_array enum_choice k x xs b h l = h
taken_array flags_choice k x xs b h l = h

pub chosen_values : (s : Shape) (f : ℕ) (k : Kind) (x : Fixed) (xs : List Fixed) (b : List ℕ) → IsChoice s f k x xs b →
    IsArray k (x ∷ xs) (choice_values b)
chosen_values s f k x xs b h =
    subst (λ ys. IsArray k (x ∷ ys) (choice_values b)) (sym h.first)
    (subst (λ w. IsArray k (x ∷ values_taken s h.all) (first_elements (count_taken w) (drop 8 b))) (sym h.shape)
    (taken_array s k x h.all (drop 8 b) h.values h.enough))
