-- Where texts end, and the lines and columns of their bytes.
use Rattle.std.proofs.Common.{◌≡◌, ◌≢◌, ◌≤◌, ◌<◌, ℕ, ◌+◌, ◌-◌, List, [], ◌∷◌, ◌++◌, refl, sym, arith, length, take, ◌∙◌, ap, subst, length-append, append_assoc, append-nil}
use Rattle.std.proofs.Math.Seq.{take-append_seam}
use Rattle.std.proofs.lemmas.Bool.Decides.{nat_tests}
use Rattle.std.proofs.lemmas.List.{nil_from_length}
use Rattle.std.proofs.lemmas.Bool.{and_parts, ne_eqb}
use Rattle.std.specs.Prelude.{Bool, true, false, ◌==◌, ◌&&◌, ◌||◌, if◌then◌else◌}
use Rattle.json.specs.Ascii.{open_brace, close_brace, open_bracket, close_bracket}
use Rattle.spa_text_commands.specs.Extent.{BeginsText, Place, outside, within, escaped, behind_text, column_behind, first_text, line_behind, open_behind, place_behind}

-- ---- Tests of a byte

feed : (x n : ℕ) → (x == 10 && n == 0) ≡ true → x ≡ 10
feed x n e = let h = (and_parts (x == 10) (n == 0) e).0 in grind (arith, nat_tests)

-- ---- Steps over a byte

first_end : (p : Place) (n x : ℕ) (xs : List ℕ) → (x == 10 && n == 0) ≡ true → first_text p n (x ∷ xs) ≡ []
first_end p n x xs e = ap (λ b. if b then [] else x ∷ first_text (place_behind p x) (open_behind p x n) xs) e

first_more : (p : Place) (n x : ℕ) (xs : List ℕ) → (x == 10 && n == 0) ≡ false →
    first_text p n (x ∷ xs) ≡ x ∷ first_text (place_behind p x) (open_behind p x n) xs
first_more p n x xs e = ap (λ b. if b then [] else x ∷ first_text (place_behind p x) (open_behind p x n) xs) e

behind_end : (p : Place) (n x : ℕ) (xs : List ℕ) → (x == 10 && n == 0) ≡ true → behind_text p n (x ∷ xs) ≡ xs
behind_end p n x xs e = ap (λ b. if b then xs else behind_text (place_behind p x) (open_behind p x n) xs) e

behind_more : (p : Place) (n x : ℕ) (xs : List ℕ) → (x == 10 && n == 0) ≡ false →
    behind_text p n (x ∷ xs) ≡ behind_text (place_behind p x) (open_behind p x n) xs
behind_more p n x xs e = ap (λ b. if b then xs else behind_text (place_behind p x) (open_behind p x n) xs) e

one_more : (a b : Bool) (n : ℕ) → (if a then n + 1 else if b then n - 1 else n) ≤ n + 1
one_more true b n = omega arith
one_more false true n = omega arith
one_more false false n = omega arith

few_behind : (p : Place) (x n : ℕ) → open_behind p x n ≤ n + 1
few_behind outside x n = one_more (x == open_brace || x == open_bracket) (x == close_brace || x == close_bracket) n
few_behind within x n = omega arith
few_behind escaped x n = omega arith

-- ---- The loop over a text

-- how far it is: these bytes of the text are passed, and so many brackets are open at this place
pub record Passed (bytes left : List ℕ) (p : Place) (n : ℕ) : Type 0 where
  pub passed : List ℕ
  pub whole : bytes ≡ passed ++ left
  pub text : first_text outside 0 bytes ≡ passed ++ first_text p n left
  pub behind : behind_text outside 0 bytes ≡ behind_text p n left
  pub few : n + length left ≤ length bytes

pub none_passed : (bytes : List ℕ) → Passed bytes bytes outside 0
none_passed bytes = record { passed = []; whole = refl; text = refl; behind = refl; few = omega arith }

pub one_passed : (bytes left behind : List ℕ) (p q : Place) (n m x : ℕ) (is_end : Bool) → Passed bytes left p n → left ≡ x ∷ behind →
    is_end ≡ (x == 10 && n == 0) → is_end ≡ false → q ≡ place_behind p x → m ≡ open_behind p x n → Passed bytes behind q m
one_passed bytes left behind p q n m x is_end so e is goes i j =
    let none = sym is ∙ goes in
    let few = so.few in
    let l = ap length e in
    let k = few_behind p x n in
    subst (λ r. Passed bytes behind r m) (sym i)
    (subst (λ r. Passed bytes behind (place_behind p x) r) (sym j)
    (record {
      passed = so.passed ++ x ∷ [];
      whole = so.whole ∙ ap (λ l. so.passed ++ l) e ∙ sym (append_assoc so.passed (x ∷ []) behind);
      text =
          so.text
          ∙ ap (λ l. so.passed ++ first_text p n l) e
          ∙ ap (λ l. so.passed ++ l) (first_more p n x behind none)
          ∙ sym (append_assoc so.passed (x ∷ []) (first_text (place_behind p x) (open_behind p x n) behind));
      behind = so.behind ∙ ap (λ l. behind_text p n l) e ∙ behind_more p n x behind none;
      few = omega (arith, few, l, k);
    }))

pub few_open : (bytes left : List ℕ) (p : Place) (n : ℕ) → Passed bytes left p n → n + length left ≤ length bytes
few_open bytes left p n so = so.few

pub all_passed : (bytes left : List ℕ) (p : Place) (n : ℕ) → Passed bytes left p n → length left ≡ 0 → bytes ≢ [] → BeginsText bytes bytes left
all_passed bytes left p n so e some =
    let none : left ≡ [] = nil_from_length left e in
    record {
      some = some;
      is_first = so.whole ∙ ap (λ l. so.passed ++ l) none ∙ sym (so.text ∙ ap (λ l. so.passed ++ first_text p n l) none);
      is_behind = sym (so.behind ∙ ap (λ l. behind_text p n l) none ∙ sym none);
    }

pub taken : (xs ys : List ℕ) (n : ℕ) → n ≡ length xs → take n (xs ++ ys) ≡ xs
taken xs ys n e = ap (λ k. take k (xs ++ ys)) e ∙ take-append_seam xs ys

pub text_passed : (bytes left behind text : List ℕ) (p : Place) (n x k : ℕ) (is_end : Bool) → Passed bytes left p n → left ≡ x ∷ behind →
    is_end ≡ (x == 10 && n == 0) → is_end ≡ true → k ≡ length bytes - length left → text ≡ take k bytes → bytes ≢ [] →
    BeginsText bytes text behind
text_passed bytes left behind text p n x k is_end so e is stops at cut some =
    let end = sym is ∙ stops in
    let long = ap length so.whole ∙ length-append so.passed left in
    let same : text ≡ so.passed = cut ∙ ap (take k) so.whole ∙ taken so.passed left k (omega (arith, at, long)) in
    record {
      some = some;
      is_first =
          same
          ∙ sym (append-nil so.passed)
          ∙ sym (so.text ∙ ap (λ l. so.passed ++ first_text p n l) e ∙ ap (λ l. so.passed ++ l) (first_end p n x behind end));
      is_behind = sym (so.behind ∙ ap (λ l. behind_text p n l) e ∙ behind_end p n x behind end);
    }

-- ---- What a text is of the bytes

whole_by : (p : Place) (n x : ℕ) (xs : List ℕ) (b : Bool) → (x == 10 && n == 0) ≡ b →
    (behind_text (place_behind p x) (open_behind p x n) xs ≢ [] →
    xs ≡ first_text (place_behind p x) (open_behind p x n) xs ++ 10 ∷ behind_text (place_behind p x) (open_behind p x n) xs) →
    behind_text p n (x ∷ xs) ≢ [] → x ∷ xs ≡ first_text p n (x ∷ xs) ++ 10 ∷ behind_text p n (x ∷ xs)
whole_by p n x xs true e more h =
    let f = first_end p n x xs e in
    let b = behind_end p n x xs e in
    ap (λ y. y ∷ xs) (feed x n e) ∙ sym (ap (λ l. l ++ 10 ∷ behind_text p n (x ∷ xs)) f ∙ ap (λ l. 10 ∷ l) b)
whole_by p n x xs false e more h =
    let f = first_more p n x xs e in
    let b = behind_more p n x xs e in
    ap (λ l. x ∷ l) (more (λ z. h (b ∙ z)))
    ∙ sym (ap (λ l. l ++ 10 ∷ behind_text p n (x ∷ xs)) f
    ∙ ap (λ l. x ∷ (first_text (place_behind p x) (open_behind p x n) xs ++ 10 ∷ l)) b)

whole_text : (p : Place) (n : ℕ) (xs : List ℕ) → behind_text p n xs ≢ [] → xs ≡ first_text p n xs ++ 10 ∷ behind_text p n xs
whole_text p n [] h = absurd (h refl)
whole_text p n (x ∷ xs) h = whole_by p n x xs (x == 10 && n == 0) refl (whole_text (place_behind p x) (open_behind p x n) xs) h

-- what follows a text stands behind a line feed
pub whole_of : (left text behind : List ℕ) → BeginsText left text behind → behind ≢ [] → left ≡ text ++ 10 ∷ behind
whole_of left text behind b h =
    whole_text outside 0 left (λ z. h (b.is_behind ∙ z))
    ∙ sym (ap (λ l. l ++ 10 ∷ behind) b.is_first ∙ ap (λ l. first_text outside 0 left ++ 10 ∷ l) b.is_behind)

first_by : (p : Place) (n x : ℕ) (xs : List ℕ) (b : Bool) → (x == 10 && n == 0) ≡ b →
    length (first_text (place_behind p x) (open_behind p x n) xs) ≤ length xs → length (first_text p n (x ∷ xs)) ≤ length (x ∷ xs)
first_by p n x xs true e h = let l = ap length (first_end p n x xs e) in omega (arith, l)
first_by p n x xs false e h = let l = ap length (first_more p n x xs e) in omega (arith, l, h)

first_fits : (p : Place) (n : ℕ) (xs : List ℕ) → length (first_text p n xs) ≤ length xs
first_fits p n [] = omega arith
first_fits p n (x ∷ xs) = first_by p n x xs (x == 10 && n == 0) refl (first_fits (place_behind p x) (open_behind p x n) xs)

pub text_fits : (left text behind : List ℕ) → BeginsText left text behind → length text ≤ length left
text_fits left text behind b = let l = ap length b.is_first in let f = first_fits outside 0 left in omega (arith, l, f)

some_bytes : (xs : List ℕ) → xs ≢ [] → 1 ≤ length xs
some_bytes [] h = absurd (h refl)
some_bytes (x ∷ xs) h = omega arith

pub some_item : (x : ℕ) (xs : List ℕ) → (x ∷ xs) ≢ []
some_item x xs = λ d. let l = ap length d in omega (arith, l)

pub shorter : (left text behind : List ℕ) → BeginsText left text behind → length behind < length left
shorter left text [] b = some_bytes left b.some
shorter left text (y ∷ ys) b =
    let l = ap length (whole_of left text (y ∷ ys) b (some_item y ys)) ∙ length-append text (10 ∷ y ∷ ys) in omega (arith, l)

-- ---- Lines and columns

-- how far the loop over bytes is: what is left ends in the same line and column
pub record Placed (bytes left : List ℕ) (first line column : ℕ) : Type 0 where
  pub lines_left : line_behind first bytes ≡ line_behind line left
  pub columns_left : column_behind 1 bytes ≡ column_behind column left
  pub line_room : line + length left ≤ first + length bytes
  pub column_room : column + length left ≤ 1 + length bytes

pub none_placed : (bytes : List ℕ) (first : ℕ) → Placed bytes bytes first first 1
none_placed bytes first = record { lines_left = refl; columns_left = refl; line_room = omega arith; column_room = omega arith }

pub line_feed_placed : (bytes left behind : List ℕ) (first line column next x : ℕ) → Placed bytes left first line column → left ≡ x ∷ behind →
    x ≡ 10 → next ≡ line + 1 → Placed bytes behind first next 1
line_feed_placed bytes left behind first line column next x so e t n =
    let l = ap length e in
    let r = so.line_room in
    let k = so.column_room in
    record {
      lines_left = so.lines_left ∙ ap (λ l. line_behind line l) (e ∙ ap (λ y. y ∷ behind) t) ∙ ap (λ k. line_behind k behind) (sym n);
      columns_left = so.columns_left ∙ ap (λ l. column_behind column l) (e ∙ ap (λ y. y ∷ behind) t);
      line_room = omega (arith, l, r, n);
      column_room = omega (arith, l, k);
    }

pub byte_placed : (bytes left behind : List ℕ) (first line column next x : ℕ) → Placed bytes left first line column → left ≡ x ∷ behind →
    x ≢ 10 → next ≡ column + 1 → Placed bytes behind first line next
byte_placed bytes left behind first line column next x so e t n =
    let l = ap length e in
    let r = so.line_room in
    let k = so.column_room in
    let o = ne_eqb x 10 t in
    record {
      lines_left =
          so.lines_left ∙ ap (λ l. line_behind line l) e ∙ ap (λ b. line_behind (if b then line + 1 else line) behind) o;
      columns_left =
          so.columns_left
          ∙ ap (λ l. column_behind column l) e
          ∙ ap (λ b. column_behind (if b then 1 else column + 1) behind) o
          ∙ ap (λ k. column_behind k behind) (sym n);
      line_room = omega (arith, l, r);
      column_room = omega (arith, l, k, n);
    }

pub line_placed : (bytes left : List ℕ) (first line column : ℕ) → Placed bytes left first line column → length left ≡ 0 →
    line ≡ line_behind first bytes
line_placed bytes left first line column so e = sym (so.lines_left ∙ ap (λ l. line_behind line l) (nil_from_length left e))

pub column_placed : (bytes left : List ℕ) (first line column : ℕ) → Placed bytes left first line column → length left ≡ 0 →
    column ≡ column_behind 1 bytes
column_placed bytes left first line column so e = sym (so.columns_left ∙ ap (λ l. column_behind column l) (nil_from_length left e))

pub line_fits : (bytes left : List ℕ) (first line column : ℕ) → Placed bytes left first line column → line + length left ≤ first + length bytes
line_fits bytes left first line column so = so.line_room

pub column_fits : (bytes left : List ℕ) (first line column : ℕ) → Placed bytes left first line column → column + length left ≤ 1 + length bytes
column_fits bytes left first line column so = so.column_room
