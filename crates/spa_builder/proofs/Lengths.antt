-- How long encodings are.
use Rattle.std.proofs.Common.{◌≡◌, ℕ, ◌+◌, ◌*◌, ◌/◌, List, ◌++◌, length, refl, sym, ap, ◌∙◌, arith, length-append, append_assoc}
use Rattle.std.proofs.lemmas.List.{append-nil}
use Rattle.spa_format.specs.Words.{word_bytes, wide_bytes, padding}
use Rattle.std.specs.Int.{w64, to_le_bytes}
use Rattle.spa_format.specs.Tree.{pointer, pointer_type, Trees, no_trees, member, Properties, no_properties, property, type_of}
use Rattle.spa_format.specs.Encoding.{encoded_pod, encoded_body, encoding_of, member_encodings, property_encodings}
use Rattle.spa_format.proofs.Encodings.{length-behind_two, length-encoded_pod, length-pointer}

-- so many words of 64 bits
pub members_whole : (vs : Trees) → (n : ℕ) × (length (member_encodings vs) ≡ 8 * n)
members_whole no_trees = (0, refl)
members_whole (member v vs) =
    let m = members_whole vs in
    let e = m.1 in
    let p = (length (encoded_body v) + 7) / 8 in (
      1 + p + m.0,
      (let e0 = length-append (encoded_pod (type_of v) (encoded_body v)) (member_encodings vs) in
          let e1 = length-encoded_pod (type_of v) (encoded_body v) in
          omega arith),
    )

pub properties_whole : (ps : Properties) → (n : ℕ) × (length (property_encodings ps) ≡ 8 * n)
properties_whole no_properties = (0, refl)
properties_whole (property k f v ps) =
    let m = properties_whole ps in
    let e = m.1 in
    let p = (length (encoded_body v) + 7) / 8 in
    let t = encoded_pod (type_of v) (encoded_body v) in (
      2 + p + m.0,
      (let e0 = length-behind_two k f (t ++ property_encodings ps) in
          let e1 = length-append t (property_encodings ps) in
          let e2 = length-encoded_pod (type_of v) (encoded_body v) in
          omega arith),
    )

pub wide_bytes_is : (n : ℕ) → to_le_bytes w64 n ≡ wide_bytes n
unfolding wide_bytes
wide_bytes_is n = refl

-- a pointer's pod from its parts
pub pointer_parts : (t a : ℕ) (x y z : List ℕ) → x ≡ word_bytes 16 ++ word_bytes pointer_type →
    y ≡ word_bytes t ++ word_bytes 0 → z ≡ to_le_bytes w64 a →
    x ++ (y ++ z) ≡ encoding_of (pointer t a)
pointer_parts t a x y z e f g =
    let body = word_bytes t ++ (word_bytes 0 ++ wide_bytes a) in
    ap (λ l. l ++ (y ++ z)) e
    ∙ append_assoc (word_bytes 16) (word_bytes pointer_type) (y ++ z)
    ∙ ap (λ l. word_bytes 16 ++ (word_bytes pointer_type ++ (l ++ z))) f
    ∙ ap (λ l. word_bytes 16 ++ (word_bytes pointer_type ++ ((word_bytes t ++ word_bytes 0) ++ l)))
    (g ∙ wide_bytes_is a)
    ∙ ap (λ l. word_bytes 16 ++ (word_bytes pointer_type ++ l))
    (append_assoc (word_bytes t) (word_bytes 0) (wide_bytes a) ∙ sym (append-nil body))
    ∙ ap (λ m. word_bytes m ++ (word_bytes pointer_type ++ (body ++ padding m)))
    (sym (length-pointer t a))
