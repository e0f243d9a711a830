-- The encoding of an array.
use Rattle.std.proofs.Common.{◌≡◌, ℕ, ◌+◌, ◌*◌, List, ◌++◌, length, map, ap, ◌∙◌, append_assoc}
use Rattle.spa_format.specs.Words.{word_bytes, padding}
use Rattle.spa_format.specs.Kind.{Kind, type_number, body_size, Fixed, kind_of}
use Rattle.spa_format.specs.Tree.{array_type}
use Rattle.spa_format.specs.Encoding.{fixed_bodies, array_body, encoded_pod}
use Rattle.spa_format.proofs.Elements.{array_length}
use Rattle.spa_fixed_sized.proofs.ElementWriting.{bodies_length}

-- how long the body is
pub length-array_body : {T : Type 0} (k : Kind) (f : T → Fixed) (s : ℕ) (vs : List T) →
    ((v : T) → kind_of (f v) ≡ k) → s ≡ body_size k →
    length (array_body k (map f vs)) ≡ 8 + length vs * s
length-array_body k f s vs t z =
    array_length k (map f vs) ∙ ap (λ n. 8 + n) (bodies_length k f s vs t z)

-- header, child header, elements and padding
pub array_encoding : (k : Kind) (xs : List Fixed) (header : List ℕ) (n s t : ℕ) →
    header ≡ (word_bytes n ++ word_bytes array_type) ++ (word_bytes s ++ word_bytes t) →
    n ≡ length (array_body k xs) → s ≡ body_size k → t ≡ type_number k →
    header ++ (fixed_bodies xs ++ padding n) ≡ encoded_pod array_type (array_body k xs)
array_encoding k xs header n s t e en es et =
    ap (λ l. l ++ (fixed_bodies xs ++ padding n)) e
    ∙ ap (λ x. ((word_bytes n ++ word_bytes array_type) ++ (word_bytes x ++ word_bytes t)) ++
    (fixed_bodies xs ++ padding n)) es
    ∙ ap (λ x. ((word_bytes n ++ word_bytes array_type) ++ (word_bytes
    (body_size k) ++ word_bytes x)) ++ (fixed_bodies xs ++ padding n)) et
    ∙ ap (λ x. ((word_bytes x ++ word_bytes array_type) ++ (word_bytes
    (body_size k) ++ word_bytes (type_number k))) ++ (fixed_bodies xs ++ padding x)) en
    ∙ simp append_assoc
