-- What a look can't miss: what the bodies and fronts of canonical pods are like.
use Rattle.std.proofs.Common.{◌≡◌, ℕ, ◌+◌, ◌*◌, ◌<◌, ◌≤◌, ◌-◌, List, [], ◌∷◌, length, take, drop, suc, sym, ap, ◌∙◌, subst, arith, length-drop, length-take}
use Rattle.std.specs.Prelude.{nat_lt, Bool, true, false, if◌then◌else◌}
use Rattle.std.proofs.lemmas.List.{drop_at}
use Rattle.spa_format.specs.Words.{word_at, word_bytes}
use Rattle.spa_format.specs.Kind.{Kind, bool_kind, body_size, type_number, Fixed, kind_of, content, fixed_body}
use Rattle.spa_format.specs.Tree.{choice, choice_type, Shape, shape_number}
use Rattle.spa_format.specs.Pod.{AreElements, IsArray, IsBody, IsChoice}
use Rattle.spa_format.specs.Normal.{kept_flags}
use Rattle.spa_format.specs.Encoding.{array_body, encoded_body, fixed_bodies}
use Rattle.spa_format.specs.Typed.{IsBytes, IsCount}
use Rattle.spa_format.proofs.Choices.{typed_choice}
use Rattle.spa_format.proofs.Elements.{array_back, kept_of_sized, length_of_elements}
use Rattle.spa_format.proofs.FixedKinds.{kind_of_body, length-fixed_body}
use Rattle.spa_format.proofs.Shapes.{choice_only}
use Rattle.spa_format.proofs.WordLemmas.{length-word_bytes, word_at-append, word_at-drop, word_inside}
use Rattle.spa_bytes.specs.Opening.{Opens}
use Rattle.spa_canonical.specs.Canonical.{AreCanonicalElements, BeginsCanonical, HasZeros, IsCanonicalBody}
use Rattle.spa_canonical.proofs.Made.{made_front}
use Rattle.spa_canonical.proofs.Parts.{IsCanonicalArray}
use Rattle.spa_canonical.proofs.Words.{behind_two_words}

-- the zeros behind the body of a canonical front
pub made_zeros : (input behind body rest left : List ℕ) (type : ℕ) → IsBytes input → Opens input type body rest → behind ≡ drop 8 input → BeginsCanonical input left → HasZeros behind (length body)
made_zeros input behind body rest left type h o d c =
    subst (λ b. HasZeros b (length body)) (sym d) (subst (λ b. HasZeros (drop 8 input) (length b)) (sym o.its_body) (made_front input left h c).zeros)

-- a truth value is written as 0 or 1
written_truth : (t : Bool) → word_at (word_bytes (if t then 1 else 0)) 0 < 2
unfolding word_at word_bytes
written_truth true = omega arith
written_truth false = omega arith

pub small_truth : (x : Fixed) (b : List ℕ) → x ≡ content bool_kind b → word_at (fixed_body x) 0 < 2
small_truth x b e = subst (λ y. word_at (fixed_body y) 0 < 2) (sym e) (written_truth (nat_lt 0 (word_at b 0)))

-- the first of the truth values that are written as they are read, and the others
pub record MadeBools (b : List ℕ) : Type 0 where
  pub long : 4 ≤ length b
  pub small : word_at b 0 < 2
  pub others : AreCanonicalElements bool_kind (drop 4 b)

pub made_bools : (b : List ℕ) → 0 < length b → AreCanonicalElements bool_kind b → MadeBools b
made_bools b l c = of_values c.values c.elements c.same
  where
    of_values : (xs : List Fixed) → AreElements bool_kind xs b → b ≡ fixed_bodies xs → MadeBools b
    of_values [] e s = absurd (let z = ap length e in omega arith)
    of_values (x ∷ xs) e s =
        let k : kind_of x ≡ bool_kind = kind_of_body bool_kind (take 4 b) x e.1 in
        let size : length (fixed_body x) ≡ 4 = length-fixed_body x ∙ ap body_size k in
        let rest : drop 4 b ≡ fixed_bodies xs = ap (drop 4) s ∙ drop_at (fixed_body x) (fixed_bodies xs) 4 size in
        let d = length-take 4 b in
        let w = e.1.whole in
        record {
          long = omega arith;
          small = subst (λ n. n < 2) (sym (ap (λ y. word_at y 0) s ∙ word_at-append (fixed_body x) (fixed_bodies xs) 0 (omega arith))) (small_truth x (take 4 b) e.1.says);
          others = record { values = xs; elements = e.2; same = rest };
        }

-- the body of an array that is as its elements are written
pub record MadeArray (b : List ℕ) : Type 0 where
  pub kind : Kind
  pub long : 8 ≤ length b
  pub its_size : word_at b 0 ≡ body_size kind
  pub its_type : word_at b 4 ≡ type_number kind
  pub count : ℕ
  pub whole : length (drop 8 b) ≡ count * word_at b 0
  pub elements : AreCanonicalElements kind (drop 8 b)

pub made_array : (b : List ℕ) → IsCanonicalArray b → MadeArray b
made_array b c =
    let k = c.kind in
    let a = c.its_array in
    record {
      kind = k;
      long = a.header;
      its_size = a.child_size;
      its_type = a.child_type;
      count = length c.values;
      whole = length_of_elements k c.values (drop 8 b) a.elements ∙ ap (λ n. length c.values * n) (sym a.child_size);
      elements = record { values = c.values; elements = a.elements; same = behind_two_words b _ _ _ c.same };
    }

-- what flags a choice without alternatives has, and how many values each choice
pub record MadeChoice (b : List ℕ) : Type 0 where
  pub shape : Shape
  pub long : 16 ≤ length b
  pub its_shape : word_at b 0 ≡ shape_number shape
  pub its_flags : kept_flags shape (word_at b 4) ≡ word_at b 4
  pub its_array : IsCanonicalArray (drop 8 b)
  pub further : ℕ
  pub count : IsCount shape further
  pub sized : 0 < word_at b 8
  pub whole : length b - 16 ≡ suc further * word_at b 8

choice_made : (b : List ℕ) → IsBytes b → (s : Shape) (f : ℕ) (k : Kind) (x : Fixed) (xs : List Fixed) → IsChoice s f k x xs b → b ≡ encoded_body (choice s f k x xs) → MadeChoice b
choice_made b h s f k x xs c e =
    let t = typed_choice s f k x xs b h c in
    let body = array_body k (x ∷ xs) in
    let n = word_bytes (shape_number s) in
    let rest : drop 8 b ≡ body = behind_two_words b body _ _ e in
    let flags : word_at b 4 ≡ f = ap (λ y. word_at y 4) e ∙ word_inside n body f 4 (length-word_bytes (shape_number s)) t.0 in
    let a : IsArray k (x ∷ xs) body = subst (λ y. IsArray k y body) (kept_of_sized k (x ∷ xs) t.1) (array_back k (x ∷ xs) t.2) in
    let a' : IsArray k (x ∷ xs) (drop 8 b) = subst (IsArray k (x ∷ xs)) (sym rest) a in
    let size : word_at b 8 ≡ body_size k = sym (word_at-drop 8 0 b) ∙ a'.child_size in
    let whole = length_of_elements k (x ∷ xs) (drop 8 (drop 8 b)) a'.elements in
    let d0 = length-drop 8 b in
    let d1 = length-drop 8 (drop 8 b) in
    let l0 = c.header in
    let l1 = a'.header in
    let same : length b - 16 ≡ suc (length xs) * body_size k = omega arith in
    record {
      shape = s;
      long = omega arith;
      its_shape = c.shape;
      its_flags = sym c.flags ∙ sym flags;
      its_array = record { kind = k; values = x ∷ xs; its_array = a'; same = rest };
      further = length xs;
      count = t.3;
      sized = subst (λ m. 0 < m) (sym size) t.1;
      whole = same ∙ ap (λ m. suc (length xs) * m) (sym size);
    }

pub made_choice : (b : List ℕ) → IsBytes b → IsCanonicalBody choice_type b → MadeChoice b
made_choice b h c =
    let i = choice_only c.value c.its_type in
    choice_made b h i.0 i.1 i.2 i.3 i.4 (subst (λ v. IsBody v b) i.5 c.its_body) (c.same ∙ ap encoded_body i.5)

pub some_values : (n w l : ℕ) → 0 < w → l ≡ suc n * w → 0 < l
some_values n w l p e = let m : suc n * w ≡ w + n * w = omega arith in omega arith
