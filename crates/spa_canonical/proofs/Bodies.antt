-- The bodies of arrays and choices, part by part.
use Rattle.std.proofs.Common.{◌≡◌, ℕ, suc, zero, ◌+◌, ◌*◌, ◌/◌, ◌<◌, ◌≤◌, List, [], ◌-◌, ◌∷◌, length, drop, take, refl, sym, ap, ◌∙◌, subst, arith, length-drop}
use Rattle.std.proofs.lemmas.List.{drop-drop, drop-take, length-take-le, nil_from_length, take-take, take_all}
use Rattle.spa_format.specs.Words.{word_at}
use Rattle.spa_format.specs.Kind.{Kind, Fixed, IsFixedBody, body_size, content, type_number}
use Rattle.spa_format.specs.Tree.{Shape, choice, choice_type, none_choice, range_choice, step_choice, shape_number}
use Rattle.spa_format.specs.Pod.{AreElements, least_count, values_taken}
use Rattle.spa_format.specs.Faults.{choice_header_size}
use Rattle.spa_format.proofs.Elements.{elements_length}
use Rattle.std.proofs.Math.Nat.{mul-le-mul_right}
use Rattle.spa_format.proofs.WordLemmas.{word_at-drop}
use Rattle.spa_canonical.specs.Canonical.{bytes_taken}
use Rattle.spa_canonical.specs.Rewriting.{IsShorterBody}
use Rattle.spa_format.specs.Encoding.{encoded_body, fixed_bodies}
use Rattle.spa_format.specs.Normal.{kept_flags}
use Rattle.spa_canonical.proofs.Lengths.{lengths}

-- so many bodies of a kind say values
pub record IsListed (k : Kind) (n : ℕ) (b : List ℕ) : Type 0 where
  pub values : List Fixed
  pub its_values : AreElements k values b
  pub count : length values ≡ n

pub listed : (k : Kind) (n : ℕ) (b : List ℕ) → 0 < body_size k → length b ≡ n * body_size k → IsListed k n b
listed k zero b p e = record { values = []; its_values = nil_from_length b (e ∙ omega lengths); count = refl }
listed k (suc n) b p e =
    let s = body_size k in
    let others = listed k n (drop s b) p (omega lengths) in
    record {
      values = content k (take s b) ∷ others.values;
      its_values = (p, record { whole = length-take-le s b (omega lengths); says = refl }, others.its_values);
      count = ap suc others.count;
    }

pub choice_length : (s : Shape) (f : ℕ) (k : Kind) (x : Fixed) (xs : List Fixed) →
    length (encoded_body (choice s f k x xs)) ≡ 16 + length (fixed_bodies (x ∷ xs))
choice_length s f k x xs = omega lengths

-- the first values are those of the first bodies
pub first_elements : (k : Kind) (n : ℕ) (xs : List Fixed) (b : List ℕ) → AreElements k xs b →
    AreElements k (take n xs) (take (n * body_size k) b)
first_elements k zero xs b h = ap (λ m. take m b) (let z : 0 * body_size k ≡ 0 = omega arith in z)
first_elements k (suc n) [] b h = ap (take (suc n * body_size k)) h ∙ take_all (suc n * body_size k) [] (omega arith)
first_elements k (suc n) (x ∷ xs) b h =
    let s = body_size k in
    let inside : drop s (take (suc n * s) b) ≡ take (n * s) (drop s b) =
    ap (λ i. drop s (take i b)) (omega arith) ∙ drop-take s (n * s) b in (
      h.0,
      subst (λ y. IsFixedBody k y x) (sym (take-take s (suc n * s) b (omega arith))) h.1,
      subst (AreElements k (take n xs)) (sym inside) (first_elements k n xs (drop s b) h.2),
    )

pub fewer : (m n s : ℕ) → m * s ≤ n * s → 0 < s → m ≤ n
fewer m n s l p = grind arith

-- the values that a choice takes are in its first bytes
taken_first : (s : Shape) (k : Kind) (x : Fixed) (all : List Fixed) (b : List ℕ) (m n : ℕ) → AreElements k (x ∷ all) b →
    values_taken s all ≡ take m all → n ≡ suc m * body_size k → AreElements k (x ∷ values_taken s all) (take n b)
taken_first s k x all b m n h e c =
    subst (λ l. AreElements k (x ∷ l) (take n b)) (sym e)
    (subst (λ i. AreElements k (x ∷ take m all) (take i b)) (sym c) (first_elements k (suc m) (x ∷ all) b h))

pub taken_elements : (s : Shape) (k : Kind) (x : Fixed) (all : List Fixed) (b : List ℕ) → AreElements k (x ∷ all) b →
    AreElements k (x ∷ values_taken s all) (take (bytes_taken s (body_size k) (length b)) b)
taken_elements none_choice k x all b h = taken_first none_choice k x all b 0 (body_size k) h refl (omega arith)
taken_elements range_choice k x all b h = taken_first range_choice k x all b 2 (3 * body_size k) h refl (omega arith)
taken_elements step_choice k x all b h = taken_first step_choice k x all b 3 (4 * body_size k) h refl (omega arith)
taken_elements _ k x all b h = subst (AreElements k (x ∷ all)) (sym (take_all (length b) b (omega arith))) h

-- where there are enough values, what a choice takes is some of them,
pub enough_bytes : (s : Shape) (c many all : ℕ) → all ≡ many * c → 0 < c → least_count s ≤ many → (0 < bytes_taken s c all) × (bytes_taken s c all ≤ all)
enough_bytes none_choice c many all e p l = let m = mul-le-mul_right c l in (omega arith, omega arith)
enough_bytes _ c many all e p l = let m = mul-le-mul_right c l in (omega arith, omega arith)

-- and where it is, there are
pub enough_there : (s : Shape) (c many all : ℕ) → all ≡ many * c → 0 < bytes_taken s c all → bytes_taken s c all ≤ all → (0 < c) × (least_count s ≤ many)
enough_there none_choice c many all e p l = (p, fewer 1 many c (omega arith) p)
enough_there range_choice c many all e p l = (omega arith, fewer 3 many c (omega arith) (omega arith))
enough_there step_choice c many all e p l = (omega arith, fewer 4 many c (omega arith) (omega arith))
enough_there _ c many all e p l = (grind arith, grind arith)

-- a choice with enough values
pub values_there : (s : Shape) (k : Kind) (many : ℕ) (body : List ℕ) (n : ℕ) → choice_header_size ≤ length body → word_at body 0 ≡ shape_number s →
    word_at body 8 ≡ body_size k → word_at body 12 ≡ type_number k → 0 < body_size k → length body - 16 ≡ many * body_size k → least_count s ≤ many →
    n ≡ ((length body + 7) / 8 - (16 + bytes_taken s (body_size k) (length body - 16) + 7) / 8) * 8 → IsShorterBody choice_type body n
values_there s k many body n h w c t some e enough is =
    let l = listed k many (drop 16 body) some (length-drop 16 body ∙ e) in
    of_values l.values l.its_values l.count
  where
    len : ℕ
    len = bytes_taken s (body_size k) (length body - 16)

    of_values : (xs : List Fixed) → AreElements k xs (drop 16 body) → length xs ≡ many → IsShorterBody choice_type body n
    of_values [] a i =
        let room = enough_bytes s (body_size k) many (length body - 16) e some enough in
        let none = e ∙ ap (λ m. m * body_size k) (sym i) in
        absurd (omega lengths)
    of_values (x ∷ xs) a i =
        let room = (enough_bytes s (body_size k) many (length body - 16) e some enough).1 in
        let kept : AreElements k (x ∷ values_taken s xs) (take len (drop 16 body)) =
        subst (λ m. AreElements k (x ∷ values_taken s xs) (take (bytes_taken s (body_size k) m) (drop 16 body))) (omega lengths)
        (taken_elements s k x xs (drop 16 body) a) in
        let size = elements_length k (x ∷ values_taken s xs) (take len (drop 16 body)) kept in
        record {
          value = choice s (kept_flags s (word_at body 4)) k x (values_taken s xs);
          its_type = refl;
          its_body = record {
            header = omega lengths;
            shape = w;
            flags = refl;
            all = xs;
            values = record {
              header = omega lengths;
              child_size = word_at-drop 8 0 body ∙ c;
              child_type = word_at-drop 8 4 body ∙ t;
              elements = subst (AreElements k (x ∷ xs)) (sym (drop-drop 8 8 body)) a;
            };
            enough = omega lengths;
            first = refl;
          };
          long = let long = choice_length s (kept_flags s (word_at body 4)) k x (values_taken s xs) in omega lengths;
        }
