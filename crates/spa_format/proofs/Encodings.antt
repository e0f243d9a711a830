-- Encodings: their lengths, and that those of members and properties need no padding.
use Rattle.std.proofs.Common.{◌≡◌, ℕ, ◌+◌, ◌-◌, ◌≤◌, List, ◌++◌, length, refl, sym, ap, ◌∙◌, arith, append_assoc, length-append}
use Rattle.std.proofs.lemmas.List.{append-nil, length-replicate}
use Rattle.std.specs.Int.{w32, to_le_bytes}
use Rattle.spa_format.specs.Words.{extent, header_size, padded_size, padding, word_bytes, wide_bytes}
use Rattle.spa_format.specs.Encoding.{encoded_body, encoding_of, encoded_pod, member_encodings, property_encodings}
use Rattle.spa_format.specs.Tree.{Tree, Trees, Properties, no_trees, member, no_properties, property, type_of, object, pointer, pointer_type, join_members, join_properties}
use Rattle.spa_format.proofs.WordLemmas.{length-wide_bytes}
pub use Rattle.spa_format.proofs.WordLemmas.{length-word_bytes}

-- two words before others
pub length-behind_two : (a b : ℕ) (c : List ℕ) → length (word_bytes a ++ (word_bytes b ++ c)) ≡ header_size + length c
length-behind_two a b c =
    let e0 = length-append (word_bytes a) (word_bytes b ++ c) in
    let e1 = length-append (word_bytes b) c in
    let e2 = length-word_bytes a in
    let e3 = length-word_bytes b in
    omega arith

pub two_words_length : (m n : ℕ) → length (word_bytes m ++ word_bytes n) ≡ 8
two_words_length m n =
    length-append (word_bytes m) (word_bytes n)
    ∙ (let e = length-word_bytes m in let f = length-word_bytes n in omega arith)

pub length-padding : (size : ℕ) → length (padding size) ≡ padded_size size - size
length-padding size = length-replicate (padded_size size - size) 0

-- a header, then the body, rounded up
pub length-encoded_pod : (type : ℕ) (body : List ℕ) →
    length (encoded_pod type body) ≡ extent (length body)
length-encoded_pod type body =
    let n = length body in
    let e0 = length-behind_two n type (body ++ padding n) in
    let e1 = length-append body (padding n) in
    let e2 = length-padding n in
    let up : n ≤ padded_size n = omega arith in
    omega arith

-- the header and the body are within the encoding
pub body_within : (type : ℕ) (body : List ℕ) →
    header_size + length body ≤ length (encoded_pod type body)
body_within type body = omega (arith, length-encoded_pod type body)

pub header_within : (type : ℕ) (body : List ℕ) → header_size ≤ length (encoded_pod type body)
header_within type body = omega (arith, body_within type body)

pub length-pointer : (t a : ℕ) → length (word_bytes t ++ (word_bytes 0 ++ wide_bytes a)) ≡ 16
length-pointer t a = omega (arith, length-behind_two t 0 (wide_bytes a), length-wide_bytes a)

-- the encoding of a pointer, as it is appended
pub pointer_encoding : (t a : ℕ) →
    encoding_of (pointer t a) ≡ (word_bytes 16 ++ word_bytes pointer_type) ++ ((word_bytes t ++ word_bytes 0) ++ wide_bytes a)
pointer_encoding t a =
    let body = word_bytes t ++ (word_bytes 0 ++ wide_bytes a) in
    ap (λ n. word_bytes n ++ (word_bytes pointer_type ++ (body ++ padding n))) (length-pointer t a)
    ∙ ap (λ l. word_bytes 16 ++ (word_bytes pointer_type ++ l)) (append-nil body)
    ∙ sym (append_assoc (word_bytes 16) (word_bytes pointer_type) body)
    ∙ ap (λ l. (word_bytes 16 ++ word_bytes pointer_type) ++ l)
    (sym (append_assoc (word_bytes t) (word_bytes 0) (wide_bytes a)))

pub pointer_encoding_length : (t a : ℕ) → length (encoding_of (pointer t a)) ≡ 24
pointer_encoding_length t a =
    omega
    (arith, length-encoded_pod pointer_type (word_bytes t ++ (word_bytes 0 ++ wide_bytes a)), length-pointer t a)

pub word_bytes_is : (n : ℕ) → word_bytes n ≡ to_le_bytes w32 n
unfolding word_bytes
word_bytes_is n = refl

-- an encoding takes whole padded bytes
pub whole_encoding : (type : ℕ) (body : List ℕ) → padded_size (length (encoded_pod type body)) ≡ length (encoded_pod type body)
whole_encoding type body = let e = length-encoded_pod type body in omega arith

pub whole_members : (vs : Trees) → padded_size (length (member_encodings vs)) ≡ length (member_encodings vs)
whole_members no_trees = refl
whole_members (member v vs) =
    let e = length-append (encoding_of v) (member_encodings vs) in
    let here = whole_encoding (type_of v) (encoded_body v) in
    let there = whole_members vs in
    omega arith

-- the two words before the value of a property
abbrev pub key_words : ℕ → ℕ → List ℕ
key_words k f = word_bytes k ++ word_bytes f

-- the encodings of a property and of those behind it, as they are appended
pub property_encoding : (k f : ℕ) (v : Tree) (ps : Properties) →
    property_encodings (property k f v ps) ≡ (key_words k f ++ encoding_of v) ++ property_encodings ps
property_encoding k f v ps =
    sym (append_assoc (word_bytes k) (word_bytes f) (encoding_of v ++ property_encodings ps))
    ∙ sym (append_assoc (key_words k f) (encoding_of v) (property_encodings ps))

pub length-property_encoding : (k f : ℕ) (v : Tree) (ps : Properties) →
    length (property_encodings (property k f v ps)) ≡ 8 + length (encoding_of v) + length (property_encodings ps)
length-property_encoding k f v ps =
    let e0 = ap length (property_encoding k f v ps) in
    let e1 = length-append (key_words k f ++ encoding_of v) (property_encodings ps) in
    let e2 = length-append (key_words k f) (encoding_of v) in
    let e3 = two_words_length k f in
    omega arith

pub whole_properties : (ps : Properties) → padded_size (length (property_encodings ps)) ≡ length (property_encodings ps)
whole_properties no_properties = refl
whole_properties (property k f v ps) =
    let e = length-property_encoding k f v ps in
    let here = whole_encoding (type_of v) (encoded_body v) in
    let there = whole_properties ps in
    omega arith

pub length-object : (t i : ℕ) (ps : Properties) →
    length (encoded_body (object t i ps)) ≡ header_size + length (property_encodings ps)
length-object t i ps = length-behind_two t i (property_encodings ps)

-- Two lists behind one another.

pub member_encodings-join : (vs ws : Trees) →
    member_encodings (join_members vs ws) ≡ member_encodings vs ++ member_encodings ws
member_encodings-join no_trees ws = refl
member_encodings-join (member v vs) ws =
    ap (λ l. encoding_of v ++ l) (member_encodings-join vs ws)
    ∙ sym (append_assoc (encoding_of v) (member_encodings vs) (member_encodings ws))

pub property_encodings-join : (ps qs : Properties) →
    property_encodings (join_properties ps qs) ≡ property_encodings ps ++ property_encodings qs
property_encodings-join no_properties qs = refl
property_encodings-join (property k f v ps) qs =
    property_encoding k f v (join_properties ps qs)
    ∙ ap (λ l. (key_words k f ++ encoding_of v) ++ l) (property_encodings-join ps qs)
    ∙ sym (append_assoc (key_words k f ++ encoding_of v) (property_encodings ps) (property_encodings qs))
    ∙ ap (λ l. l ++ property_encodings qs) (sym (property_encoding k f v ps))
