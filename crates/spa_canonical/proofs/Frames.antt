-- The front with zeros as its padding is an encoded pod.
use Rattle.std.proofs.Common.{append-nil, List, [], ap, append_assoc, arith, drop, inr, length, length-append, length-drop, refl, subst, sym, take, ℕ, ◌++◌, ◌+◌, ◌-◌, ◌<◌, ◌∙◌, ◌≡◌, ◌≤◌}
use Rattle.std.proofs.Math.Seq.{take-add}
use Rattle.std.proofs.lemmas.List.{take_at, nil_from_length, take-append-drop}
use Rattle.spa_format.specs.Words.{body_of, extent, header_size, padded_size, padding, wide_at, wide_bytes, word_at, word_bytes}
use Rattle.spa_format.specs.Tree.{Trees, fixed, member, no_properties, no_trees, object, object_type, pointer, pointer_type, property, type_of}
use Rattle.spa_format.specs.Pod.{AreMembers, AreProperties, IsBody}
use Rattle.spa_format.specs.Encoding.{encoded_pod, encoded_body, encoding_of}
use Rattle.spa_format.specs.Typed.{IsBytes}
use Rattle.spa_format.specs.Front.{HasFront, front_of}
use Rattle.spa_format.proofs.Fronts.{front_of_whole, length-body_of}
use Rattle.spa_format.proofs.Short.{padded_above}
use Rattle.spa_bytes.specs.Opening.{Opens}
use Rattle.spa_bodies.proofs.Steps.{pod_read, parted}
use Rattle.spa_canonical.specs.Canonical.{AreCanonical, AreCanonicalProperties, BeginsCanonical, HasZeros, IsCanonicalBody, IsStretch}
use Rattle.spa_format.proofs.WordLemmas.{IsBytes-drop, IsBytes-take, wide_at-drop, word_at-drop, word_at-take}
use Rattle.spa_format.specs.Kind.{Kind, bool_kind, IsFixedBody, type_number, body_size, content}
use Rattle.spa_format.proofs.FixedKinds.{kind_of_content}
use Rattle.spa_canonical.proofs.Words.{content_kept, two_words, two_words_then, wide_back}

pub pod_front : (b : List ℕ) → IsBytes b → HasFront b → HasZeros (drop 8 b) (word_at b 0) → front_of b ≡ encoded_pod (word_at b 4) (body_of b)
pod_front b h f z =
    let n = word_at b 0 in
    let t = word_at b 4 in
    let p = padded_size n in
    let body = body_of b in
    let more : n + (p - n) ≡ p = let g = padded_above n in omega arith in
    let tail : take p (drop 8 b) ≡ body ++ padding n = ap (λ m. take m (drop 8 b)) (sym more) ∙ take-add n (p - n) (drop 8 b) ∙ ap (λ x. body ++ x) z in
    take-add 8 p b ∙ ap (λ x. x ++ take p (drop 8 b)) (two_words b h f.header) ∙ ap (λ x. (word_bytes n ++ word_bytes t) ++ x) tail
    ∙ append_assoc (word_bytes n) (word_bytes t) (body ++ padding n)
    ∙ ap (λ m. word_bytes m ++ (word_bytes t ++ (body ++ padding m))) (sym (length-body_of b f))

-- a canonical body, and zeros behind it
pub canonical_front : (input behind body rest : List ℕ) (type : ℕ) → IsBytes input → Opens input type body rest → behind ≡ drop 8 input →
    HasZeros behind (length body) → IsCanonicalBody type body → BeginsCanonical input rest
canonical_front input behind body rest type h o d z c =
    let v = c.value in
    let size : length body ≡ word_at input 0 = ap length o.its_body ∙ length-body_of input o.there in
    let zeros : HasZeros (drop 8 input) (word_at input 0) = subst (HasZeros (drop 8 input)) size (subst (λ b. HasZeros b (length body)) d z) in
    record {
      value = v;
      begins = pod_read input body rest type v o c.its_type c.its_body;
      same = pod_front input h o.there zeros ∙ ap (λ t. encoded_pod t (body_of input)) (sym o.its_type ∙ sym c.its_type)
          ∙ ap (encoded_pod (type_of v)) (sym o.its_body ∙ c.same);
    }

pub no_members : AreCanonical []
no_members = record { values = no_trees; members = refl; same = refl }

pub no_properties_left : AreCanonicalProperties []
no_properties_left = record { values = no_properties; properties = refl; same = refl }

-- a pod of fixed size
pub fixed_begins : (input rest : List ℕ) (k : Kind) (s : ℕ) → IsBytes input → 16 ≤ length input → word_at input 4 ≡ type_number k → word_at input 0 ≡ s → s ≡ body_size k → s < 9 → 0 < s → HasZeros (drop 8 input) s → (k ≡ bool_kind → word_at input 8 < 2) → rest ≡ drop 16 input → BeginsCanonical input rest
fixed_begins input rest k s h l e4 e0 e m p z t d =
    let body = body_of input in
    let whole : extent (word_at input 0) ≡ 16 = omega arith in
    let there : HasFront input = record { header = omega arith; whole = omega arith } in
    let size : length body ≡ s = length-body_of input there ∙ e0 in
    let bytes : IsBytes body = IsBytes-take (word_at input 0) (drop 8 input) (IsBytes-drop 8 input h) in
    let word : k ≡ bool_kind → word_at body 0 < 2 = λ i.
    let four : s ≡ 4 = e ∙ ap body_size i in
    subst (λ x. x < 2) (sym (word_at-take (word_at input 0) 0 (drop 8 input) (omega arith) ∙ word_at-drop 8 0 input)) (t i) in
    let x = content k body in
    let o : Opens input (word_at input 4) body rest = record {
      there = there;
      its_type = refl;
      its_body = refl;
      its_rest = d ∙ ap (λ n. drop n input) (sym whole);
      shorter = omega arith;
      fits = omega arith;
    } in
    let its_body : IsFixedBody k body x = record { whole = size ∙ e; says = refl } in
    canonical_front input (drop 8 input) body rest (word_at input 4) h o refl (subst (HasZeros (drop 8 input)) (sym size) z)
    (record {
      value = fixed x;
      its_type = ap type_number (kind_of_content k body) ∙ sym e4;
      its_body = subst (λ y. IsFixedBody y body x) (sym (kind_of_content k body)) its_body;
      same = content_kept k body bytes (size ∙ e) word;
    })

pub none_left : (b : List ℕ) → length b ≡ 0 → AreCanonical b
none_left b e = subst AreCanonical (sym (nil_from_length b e)) no_members

pub none_left_either : (b : List ℕ) → length b ≡ 0 → AreCanonicalProperties b
none_left_either b e = subst AreCanonicalProperties (sym (nil_from_length b e)) no_properties_left

pub rest_bytes : (behind rest : List ℕ) → IsBytes behind → BeginsCanonical behind rest → IsBytes rest
rest_bytes behind rest h c = subst IsBytes (sym c.begins.follows) (IsBytes-drop (extent (word_at behind 0)) behind h)

pub object_of : (body behind : List ℕ) (type : ℕ) → IsBytes body → 8 ≤ length body → behind ≡ drop 8 body → type ≡ object_type → AreCanonicalProperties behind → IsCanonicalBody type body
object_of body behind type h l d k c = record {
  value = object (word_at body 0) (word_at body 4) c.values;
  its_type = sym k;
  its_body = (l, refl, refl, subst (AreProperties c.values) d c.properties);
  same = two_words_then body _ _ _ h l refl refl (sym d ∙ c.same);
}

pub pointer_of : (body : List ℕ) (type : ℕ) → IsBytes body → length body ≡ 16 → type ≡ pointer_type → word_at body 4 ≡ 0 → IsCanonicalBody type body
pointer_of body type h l k z =
    let rest : length (drop 8 body) ≡ 8 = let d = length-drop 8 body in omega arith in
    let wide : drop 8 body ≡ wide_bytes (wide_at body 8) = sym (wide_back (drop 8 body) (IsBytes-drop 8 body h) rest) ∙ ap wide_bytes (wide_at-drop 8 0 body) in
    record {
      value = pointer (word_at body 0) (wide_at body 8);
      its_type = sym k;
      its_body = (refl, inr (l, refl));
      same = two_words_then body _ _ _ h (omega arith) refl z wide;
    }

pub no_stretch : (b : List ℕ) → IsStretch b b
no_stretch b = ([], refl, no_members)

pub more_stretch : (input rest left : List ℕ) → BeginsCanonical input rest → IsStretch rest left → IsStretch input left
more_stretch input rest left c s =
    let front = front_of input in
    let r = s.2 in (
      front ++ s.0,
      parted input c.value rest c.begins ∙ ap (λ x. front ++ x) s.1 ∙ sym (append_assoc front s.0 left),
      record {
        values = member c.value r.values;
        members = (front, s.0, refl, c.begins.begins.pod, r.members);
        same = ap (λ x. x ++ s.0) c.same ∙ ap (λ x. encoded_pod (type_of c.value) (encoded_body c.value) ++ x) r.same;
      },
    )

pub one_more : (input rest : List ℕ) → BeginsCanonical input rest → AreCanonical rest → AreCanonical input
one_more input rest c r =
    let s = more_stretch input rest [] c (rest, sym (append-nil rest), r) in
    subst AreCanonical (sym (s.1 ∙ append-nil s.0)) s.2

pub one_more_property : (input behind rest : List ℕ) → IsBytes input → header_size ≤ length input → behind ≡ drop header_size input →
    BeginsCanonical behind rest → AreCanonicalProperties rest → AreCanonicalProperties input
one_more_property input behind rest h l d c r =
    let v = c.value in
    let key = word_bytes (word_at input 0) in
    let flags = word_bytes (word_at input 4) in
    let p : drop 8 input ≡ front_of behind ++ rest = sym d ∙ parted behind v rest c.begins in
    record {
      values = property (word_at input 0) (word_at input 4) v r.values;
      properties = (l, refl, refl, front_of behind, rest, p, c.begins.begins.pod, r.properties);
      same = sym (take-append-drop 8 input) ∙ ap (λ x. x ++ drop 8 input) (two_words input h l) ∙ append_assoc key flags (drop 8 input)
          ∙ ap (λ x. key ++ (flags ++ x)) (p ∙ ap (λ x. x ++ rest) c.same ∙ ap (λ x. encoding_of v ++ x) r.same);
    }

-- what is in front of what is left
parts_of : (P : List ℕ → Type 0) (input left : List ℕ) (n : ℕ) → (first : List ℕ) × (input ≡ first ++ left) × P first →
    n ≡ length input - length left → (take n input ++ drop n input ≡ input) × P (take n input)
parts_of P input left n s e =
    let size : n ≡ length s.0 = let l = ap length s.1 in let m = length-append s.0 left in omega arith in
    let same : take n input ≡ s.0 = ap (take n) s.1 ∙ take_at s.0 left n (sym size) in
    (take-append-drop n input, subst P (sym same) s.2)

pub stretch_parts : (input left : List ℕ) (n : ℕ) → IsStretch input left → n ≡ length input - length left → (take n input ++ drop n input ≡ input) × AreCanonical (take n input)
stretch_parts = parts_of AreCanonical

-- some pods are there, so the front is
pub stretch_front : (input first rest : List ℕ) → input ≡ first ++ rest → AreCanonical first → 0 < length first → HasFront input
stretch_front input first rest e c l = of_values input first rest c.values c.members e l
  where
    of_values : (input first rest : List ℕ) (vs : Trees) → AreMembers vs first → input ≡ first ++ rest → 0 < length first → HasFront input
    of_values input first rest no_trees m e l = absurd (let z = ap length m in omega arith)
    of_values input first rest (member v vs) m e l =
        let all : input ≡ m.0 ++ (m.1 ++ rest) = e ∙ ap (λ x. x ++ rest) m.2 ∙ append_assoc m.0 m.1 rest in
        (front_of_whole input m.0 (m.1 ++ rest) (type_of v) (IsBody v) all m.3).0

pub body_bytes : (input body rest : List ℕ) (type : ℕ) → IsBytes input → Opens input type body rest → IsBytes body
body_bytes input body rest type h o =
    subst IsBytes (sym o.its_body) (IsBytes-take (word_at input 0) (drop 8 input) (IsBytes-drop 8 input h))
