-- The bodies of an array's elements: what they say, and how they are written one after another.
use Rattle.std.proofs.Common.{◌≡◌, ℕ, zero, suc, ◌+◌, ◌*◌, ◌%◌, ◌<◌, ◌≤◌, List, [], ◌∷◌, ◌++◌, length, take, drop, map, refl, sym, ap, subst, ◌∙◌, arith, append_assoc, length-take, Ok, Err}
use Rattle.std.specs.Prelude.{OnErr, OnOk, Result}
use Rattle.std.specs.Simd.{first_chunks}
use Rattle.std.proofs.Math.Nat.{mul-mod_left}
use Rattle.std.proofs.lemmas.List.{append-nil}
use Rattle.spa_fixed_sized.specs.Reading.{AreWhole}
use Rattle.spa_fixed_sized.proofs.Chunks.{elements_of_bodies}
use Rattle.spa_fixed_sized.proofs.ArrayWriting.{array_encoding}
use Rattle.spa_format.specs.Encoding.{array_body, fixed_bodies, encoded_pod}
use Rattle.spa_format.specs.Tree.{array_type}
use Rattle.spa_format.specs.Words.{padding, word_bytes}
use Rattle.spa_format.proofs.Elements.{array_length, elements_length, length_of_elements}
use Rattle.spa_builder.specs.Answers.{Makes}
use Rattle.spa_builder.specs.Framed.{IsGrown}
use Rattle.spa_builder.specs.Fields.{BuilderFields, IsAt, HasState}
use Rattle.spa_builder.specs.State.{State}
use Rattle.spa_builder.specs.Step.{Outcome}
use Rattle.spa_builder.proofs.Steps.{kept}
use Rattle.spa_builder.proofs.Valued.{appended_back}
use Rattle.spa_utils.specs.declared.errno.Errno.{Errno}
use Rattle.spa_format.specs.Kind.{Kind, type_number, Fixed, IsFixedBody, body_size, content, fixed_body}
use Rattle.spa_format.specs.Normal.{kept_elements}
use Rattle.spa_format.specs.Pod.{AreElements}
use Rattle.spa_format.proofs.FixedKinds.{same_fixed}

-- the bodies that are left are of the other elements, and those before them were written
pub record ArePutBefore (k : Kind) (bodies left start bytes : List ℕ) : Type 0 where
  pub others : (xs : List Fixed) → AreElements k xs bodies → (ys : List Fixed) × AreElements k ys left × (bytes ++ fixed_bodies ys ≡ start ++ fixed_bodies xs)

pub none_put : (k : Kind) (bodies start : List ℕ) → ArePutBefore k bodies bodies start start
none_put k bodies start = record { others = λ xs a. (xs, a, refl) }

next_put : (k : Kind) (left start bytes more all : List ℕ) (x : Fixed) (ys : List Fixed) → 0 < length left → IsFixedBody k (take (body_size k) left) x →
    AreElements k ys left → bytes ++ fixed_bodies ys ≡ start ++ all → more ≡ fixed_body x →
    (zs : List Fixed) × AreElements k zs (drop (body_size k) left) × ((bytes ++ more) ++ fixed_bodies zs ≡ start ++ all)
next_put k left start bytes more all x [] p i a e m = absurd (let l = ap length a in omega arith)
next_put k left start bytes more all x (y ∷ zs) p i a e m =
    let same = same_fixed k (take (body_size k) left) x y i a.1 in (
      zs,
      a.2,
      append_assoc bytes more (fixed_bodies zs) ∙ ap (λ b. bytes ++ (b ++ fixed_bodies zs)) (m ∙ ap fixed_body same) ∙ e,
    )

-- one more body is written
pub one_more_put : (k : Kind) (size : ℕ) (bodies left rest start bytes new more : List ℕ) (x : Fixed) → size ≡ body_size k → 0 < length left →
    IsFixedBody k (take size left) x → rest ≡ drop size left → new ≡ bytes ++ more → more ≡ fixed_body x →
    ArePutBefore k bodies left start bytes → ArePutBefore k bodies rest start new
one_more_put k size bodies left rest start bytes new more x z p i r n m a = record {
  others = λ xs h.
      let o = a.others xs h in
      let w = next_put k left start bytes more (fixed_bodies xs) x o.0 p (subst (λ s. IsFixedBody k (take s left) x) z i) o.1 o.2 m in (
        w.0,
        subst (AreElements k w.0) (sym (r ∙ ap (λ s. drop s left) z)) w.1,
        ap (λ b. b ++ fixed_bodies w.0) n ∙ w.2,
      );
}

-- all are
none_after : (k : Kind) (ys : List Fixed) (left : List ℕ) → length left ≡ 0 → AreElements k ys left → fixed_bodies ys ≡ []
none_after k [] left e a = refl
none_after k (y ∷ ys) left e a = absurd (let t = length-take (body_size k) left in let w = a.1.whole in let p = a.0 in omega arith)

pub all_put : (k : Kind) (bodies left start bytes : List ℕ) → length left ≡ 0 → ArePutBefore k bodies left start bytes → (xs : List Fixed) → AreElements k xs bodies →
    bytes ≡ start ++ fixed_bodies xs
all_put k bodies left start bytes e a xs h =
    let o = a.others xs h in
    sym (append-nil bytes) ∙ ap (λ b. bytes ++ b) (sym (none_after k o.0 left e o.1)) ∙ o.2

-- whole bodies that are left, where one of them is there
pub one_there : (size : ℕ) (left : List ℕ) → AreWhole size left → 0 < length left → (0 < size) × (size ≤ length left)
one_there size left w p = by_count w.many w.count
  where
    by_count : (n : ℕ) → length left ≡ n * size → (0 < size) × (size ≤ length left)
    by_count zero e = absurd (omega arith)
    by_count (suc n) e = let m : suc n * size ≡ size + n * size = grind arith in (positive size e, omega arith)
      where
        positive : (s : ℕ) → length left ≡ suc n * s → 0 < s
        positive zero f = absurd (let z : suc n * 0 ≡ 0 = grind arith in omega arith)
        positive (suc s) f = omega arith

-- bytes that grow

pub not_grown : (b : List ℕ) → IsGrown b b
not_grown b = ([], sym (append-nil b))

pub grown_twice : (a b c : List ℕ) → IsGrown a b → IsGrown b c → IsGrown a c
grown_twice a b c g h = (g.0 ++ h.0, h.1 ∙ ap (λ x. x ++ h.0) g.1 ∙ append_assoc a g.0 h.0)

pub grown_by : (a b more : List ℕ) → b ≡ a ++ more → IsGrown a b
grown_by a b more e = (more, e)

pub grown_either : {A E : Type 0} (r : Result A E) (a b more : List ℕ) → OnOk r (b ≡ a ++ more) → OnErr r (b ≡ a) → IsGrown a b
grown_either (Ok x) a b more ok err = (more, ok)
grown_either (Err e) a b more ok err = subst (IsGrown a) (sym err) (not_grown a)

pub grown_back : (a b : List ℕ) → IsGrown a b → (take (length a) b ≡ a) × (length a ≤ length b)
grown_back a b g = appended_back a g.0 b g.1

-- the pod of an array is written

pub array_written : {A E : Type 0} (r : Result A E) (k : Kind) (bodies old head mid new array child : List ℕ) (size type : ℕ) → head ≡ old ++ (array ++ child) →
    array ≡ word_bytes (8 + length bodies) ++ word_bytes array_type → child ≡ word_bytes size ++ word_bytes type → size ≡ body_size k → type ≡ type_number k →
    ((xs : List Fixed) → AreElements k xs bodies → mid ≡ head ++ fixed_bodies xs) → OnOk r (new ≡ mid ++ padding (8 + length bodies)) →
    OnOk r ((xs : List Fixed) → AreElements k xs bodies → new ≡ old ++ encoded_pod array_type (array_body k xs))
array_written (Err e) k bodies old head mid new array child size type h a c s t m p = p
array_written (Ok x) k bodies old head mid new array child size type h a c s t m p = λ xs e.
    let n = 8 + length bodies in
    let l : n ≡ length (array_body k xs) = ap (λ i. 8 + i) (sym (elements_length k xs bodies e)) ∙ sym (array_length k xs) in
    let f = fixed_bodies xs in
    let its : array ++ child ≡ (word_bytes n ++ word_bytes array_type) ++ (word_bytes size ++ word_bytes type) =
    ap (λ y. y ++ child) a ∙ ap (λ y. (word_bytes n ++ word_bytes array_type) ++ y) c in
    p ∙ ap (λ y. y ++ padding n) (m xs e ∙ ap (λ y. y ++ f) h)
    ∙ append_assoc (old ++ (array ++ child)) f (padding n)
    ∙ append_assoc old (array ++ child) (f ++ padding n)
    ∙ ap (λ y. old ++ y) (array_encoding k xs (array ++ child) n size type its l s t)

-- which bytes are bodies of a size

pub whole_back : (s : ℕ) (b : List ℕ) → AreWhole s b → length b % s ≡ 0
whole_back s b w = ap (λ n. n % s) w.count ∙ mul-mod_left w.many s

-- what elements are whole, and what is whole has elements
pub whole_elements : (k : Kind) (s : ℕ) (xs : List Fixed) (b : List ℕ) → s ≡ body_size k → AreElements k xs b → AreWhole s b
whole_elements k s xs b e a = record { many = length xs; count = length_of_elements k xs b a ∙ ap (λ n. length xs * n) (sym e) }

pub kept_whole : {A : Type 0} (k : Kind) (s : ℕ) (b : List ℕ) (o : List Fixed → State → Outcome) (old new : BuilderFields) (r : Result A Errno) → s ≡ body_size k → AreWhole s b →
    HasState old → ((t : State) (xs : List Fixed) → IsAt old t → AreElements k xs b → Makes (o xs t) old new r) → HasState new
kept_whole k s b o old new r e w h f =
    let xs = kept_elements k (map (content k) (first_chunks (body_size k) w.many b)) in
    let a = elements_of_bodies k w.many b (w.count ∙ ap (λ n. w.many * n) e) in
    kept (o xs) old new r h (λ t at. f t xs at a)
