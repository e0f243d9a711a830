-- Properties behind one another, and the object that they make, as they are written.
use Rattle.std.proofs.Common.{◌≡◌, inl, ℕ, ◌-◌, ◌<◌, ◌≤◌, ◌^◌, List, [], ◌++◌, length, drop, refl, sym, ap, ◌∙◌, subst, arith, append_assoc, length-append}
use Rattle.std.specs.Prelude.{replicate}
use Rattle.std.proofs.lemmas.List.{append-nil, drop_at}
use Rattle.spa_format.specs.Words.{word_at, word_bytes, padded_size, padding, size_limit}
use Rattle.spa_format.specs.Tree.{Tree, object, Properties, no_properties, property, join_properties}
use Rattle.spa_format.specs.Pod.{AreProperties, IsBody, IsPod, IsWhole}
use Rattle.spa_format.specs.Encoding.{encoding_of, encoded_pod, property_encodings}
use Rattle.spa_format.specs.Writable.{IsTooLarge}
use Rattle.spa_format.proofs.Back.{whole_frame}
use Rattle.spa_format.proofs.Encodings.{whole_properties, property_encodings-join, length-behind_two, two_words_length}
use Rattle.spa_format.proofs.Sequences.{props_joined}
use Rattle.spa_format.proofs.WordLemmas.{length-word_bytes, word_inside}
use Rattle.spa_object_view.specs.Written.{AreBehind, AreWritten, open_header}
use Rattle.spa_keyed_objects.specs.CanonicalPods.{IsCanonicalPod}

pub written_joined : (ps qs : Properties) (b c : List ℕ) → AreWritten ps b → AreWritten qs c → AreWritten (join_properties ps qs) (b ++ c)
written_joined ps qs b c h k = record {
  properties = props_joined ps qs b c h.properties k.properties;
  same = ap (λ x. x ++ c) h.same ∙ ap (λ x. property_encodings ps ++ x) k.same ∙ sym (property_encodings-join ps qs);
}

-- one property
pub written_one : (k f : ℕ) (x : Tree) (pod : List ℕ) → k < 2 ^ 32 → f < 2 ^ 32 → IsCanonicalPod x pod → AreWritten (property k f x no_properties) ((word_bytes k ++ word_bytes f) ++ pod)
written_one k f x pod l m w =
    let head = word_bytes k ++ word_bytes f in
    let b = head ++ pod in
    let e1 = length-word_bytes k in
    let two : length head ≡ 8 = two_words_length k f in
    let e2 = length-append head pod in
    let parts : b ≡ word_bytes k ++ (word_bytes f ++ pod) = append_assoc (word_bytes k) (word_bytes f) pod in
    let w0 : word_at b 0 ≡ k = ap (λ y. word_at y 0) parts ∙ word_inside [] (word_bytes f ++ pod) k 0 refl l in
    let w4 : word_at b 4 ≡ f = ap (λ y. word_at y 4) parts ∙ word_inside (word_bytes k) pod f 4 e1 m in
    let enough : 8 ≤ length b = omega arith in
    record {
      properties = (enough, sym w0, sym w4, pod, [], drop_at head pod 8 two ∙ sym (append-nil pod), w.its_pod, refl);
      same = ap (λ y. head ++ y) (w.same ∙ sym (append-nil (encoding_of x))) ∙ append_assoc (word_bytes k) (word_bytes f) (encoding_of x ++ []);
    }

-- no property stands behind the bytes,
pub behind_none : (head : List ℕ) → AreBehind no_properties head head
behind_none head = record { bytes = []; parts = sym (append-nil head); written = record { properties = refl; same = refl } }

-- and one more
pub behind_on : (k f : ℕ) (x : Tree) (met : Properties) (pod head old new : List ℕ) → k < 2 ^ 32 → f < 2 ^ 32 → IsCanonicalPod x pod →
    new ≡ old ++ ((word_bytes k ++ word_bytes f) ++ pod) → AreBehind met head old → AreBehind (join_properties met (property k f x no_properties)) head new
behind_on k f x met pod head old new l m w p h =
    let piece = (word_bytes k ++ word_bytes f) ++ pod in
    record {
      bytes = h.bytes ++ piece;
      parts = p ∙ ap (λ y. y ++ piece) h.parts ∙ append_assoc head h.bytes piece;
      written = written_joined met (property k f x no_properties) h.bytes piece h.written (written_one k f x pod l m w);
    }

header_long : (t i : ℕ) → length (open_header t i) ≡ 16
header_long t i =
    let e = length-append (word_bytes 0 ++ word_bytes 15) (word_bytes t ++ word_bytes i) in
    omega (arith, e, two_words_length 0 15, two_words_length t i)

-- an object behind its header is as it is written
pub record IsWrittenObject (t i : ℕ) (met : Properties) (b : List ℕ) : Type 0 where
  pub encoding : b ≡ encoding_of (object t i met)
  pub pod : IsPod b (object t i met)

pub object_written : (t i : ℕ) (met : Properties) (out b : List ℕ) → t < 2 ^ 32 → i < 2 ^ 32 → AreBehind met (open_header t i) out →
    length out - 8 < 2 ^ 32 → b ≡ word_bytes (length out - 8) ++ drop 4 out → IsWrittenObject t i met b
object_written t i met out b ft fi h f e =
    let bytes = h.bytes in
    let o = h.parts in
    let w = h.written in
    let body = word_bytes t ++ (word_bytes i ++ property_encodings met) in
    let head = word_bytes t ++ word_bytes i in
    let e0 = length-behind_two t i (property_encodings met) in
    let e1 = length-word_bytes t in
    let e2 = length-append (open_header t i) bytes in
    let e3 = header_long t i in
    let e4 = ap length o in
    let e5 = ap length w.same in
    let e6 = whole_properties met in
    let size : length out - 8 ≡ length body = omega arith in
    let none : padded_size (length body) - length body ≡ 0 = omega arith in
    let two : length head ≡ 8 = two_words_length t i in
    let joined : head ++ property_encodings met ≡ body = append_assoc (word_bytes t) (word_bytes i) (property_encodings met) in
    let inside : drop 8 body ≡ property_encodings met = ap (drop 8) (sym joined) ∙ drop_at head (property_encodings met) 8 two in
    let front : open_header t i ++ bytes ≡ word_bytes 0 ++ (word_bytes 15 ++ (head ++ bytes)) =
    append_assoc (word_bytes 0 ++ word_bytes 15) head bytes ∙ append_assoc (word_bytes 0) (word_bytes 15) (head ++ bytes) in
    let behind : drop 4 out ≡ word_bytes 15 ++ (head ++ bytes) =
    ap (drop 4) (o ∙ front) ∙ drop_at (word_bytes 0) (word_bytes 15 ++ (head ++ bytes)) 4 (length-word_bytes 0) in
    let whole : head ++ bytes ≡ body ++ padding (length body) =
    ap (λ y. head ++ y) w.same ∙ joined ∙ sym (append-nil body) ∙ ap (λ m. body ++ replicate m 0) (sym none) in
    let encoding : b ≡ encoded_pod 15 body =
    e ∙ ap (λ y. word_bytes (length out - 8) ++ y) (behind ∙ ap (λ y. word_bytes 15 ++ y) whole) ∙ ap (λ m. word_bytes m ++ (word_bytes 15 ++ (body ++ padding (length body)))) size in
    let w0 : word_at body 0 ≡ t = word_inside [] (word_bytes i ++ property_encodings met) t 0 refl ft in
    let w4 : word_at body 4 ≡ i = word_inside (word_bytes t) (property_encodings met) i 4 e1 fi in
    let long : 8 ≤ length body = omega arith in
    let fits : length body < 2 ^ 32 = omega arith in
    let list : AreProperties met (drop 8 body) = subst (AreProperties met) (w.same ∙ sym inside) w.properties in
    let joined_pod : IsWhole (encoded_pod 15 body) 15 (IsBody (object t i met)) = whole_frame 15 body (IsBody (object t i met)) (omega arith) fits (long, sym w0, sym w4, list) in
    record {
      encoding = encoding;
      pod = subst (λ c. IsPod c (object t i met)) (sym encoding) joined_pod;
    }

-- an object whose size can't be put there can't be written
pub object_large : (t i : ℕ) (met : Properties) (out : List ℕ) → AreBehind met (open_header t i) out → (16 ≤ length out → size_limit ≤ length out - 8) →
    IsTooLarge (object t i met)
object_large t i met out h l =
    let body = word_bytes t ++ (word_bytes i ++ property_encodings met) in
    let e0 = length-behind_two t i (property_encodings met) in
    let e1 = header_long t i in
    let e2 = length-append (open_header t i) h.bytes in
    let e3 = ap length h.parts in
    let e4 = ap length h.written.same in
    let long : 16 ≤ length out = omega arith in
    let past = l long in
    let large : size_limit ≤ length body = omega arith in
    inl large
