-- The encoding of a choice.
use Rattle.std.proofs.Common.{◌≡◌, ℕ, ◌+◌, ◌*◌, List, ◌++◌, length, take, map, sym, ap, ◌∙◌, arith}
use Rattle.std.proofs.Common.{append_assoc, length-append}
use Rattle.std.proofs.Math.Seq.{take-append-add}
use Rattle.spa_format.specs.Words.{word_bytes, padding}
use Rattle.spa_format.specs.Kind.{Kind, type_number, body_size, Fixed, kind_of}
use Rattle.spa_format.specs.Tree.{choice_type}
use Rattle.spa_format.specs.Encoding.{fixed_bodies, array_body, encoded_pod}
use Rattle.spa_format.proofs.Elements.{array_length, fixed_bodies-append}
use Rattle.spa_format.proofs.Encodings.{two_words_length, length-behind_two}
use Rattle.spa_fixed_sized.specs.Choices.{choice_body}
use Rattle.spa_fixed_sized.proofs.ElementWriting.{bodies_length}

-- how long the body is
pub length-choice_body : {A : Type 0} {B : Type 0} (shape flags : ℕ) (k : Kind) (e : A → Fixed)
    (f : B → Fixed) (s : ℕ) (xs : List A) (ys : List B) → ((v : A) → kind_of (e v) ≡ k) →
    ((v : B) → kind_of (f v) ≡ k) → s ≡ body_size k →
    length (choice_body shape flags k (map e xs ++ map f ys)) ≡ 16 + length xs * s + length ys * s
length-choice_body shape flags k e f s xs ys t u z =
    let l0 = length-behind_two shape flags (array_body k (map e xs ++ map f ys)) in
    let l4 = array_length k (map e xs ++ map f ys) in
    let l5 =
    ap length (fixed_bodies-append (map e xs) (map f ys)) ∙ length-append
    (fixed_bodies (map e xs)) (fixed_bodies (map f ys)) in
    let l6 = bodies_length k e s xs t z in
    let l7 = bodies_length k f s ys u z in
    omega arith

-- the size that the code counts, in values of the size that it read
pub choice_length : {A : Type 0} {B : Type 0} (shape flags : ℕ) (k : Kind) (e : A → Fixed)
    (f : B → Fixed) (s read : ℕ) (xs : List A) (ys : List B) → ((v : A) → kind_of (e v) ≡ k) →
    ((v : B) → kind_of (f v) ≡ k) → s ≡ body_size k → read ≡ s →
    16 + length xs * read + length ys * s ≡
    length (choice_body shape flags k (map e xs ++ map f ys))
choice_length shape flags k e f s read xs ys t u z r =
    ap (λ n. 16 + length xs * n + length ys * s) r
    ∙ sym (length-choice_body shape flags k e f s xs ys t u z)

regroup : (n c k f s t x y z : List ℕ) →
    ((((n ++ c) ++ (k ++ f)) ++ (s ++ t)) ++ x) ++ (y ++ z) ≡ n ++
    (c ++ ((k ++ (f ++ (s ++ (t ++ (x ++ y))))) ++ z))
regroup n c k f s t x y z = simp append_assoc

-- three headers, the first values, the others and padding
pub choice_encoding : (k : Kind) (xs ys : List Fixed) (pod choice child bodies start : List ℕ)
    (n shape flags s t m : ℕ) → start ≡ ((pod ++ choice) ++ child) ++ bodies →
    take m bodies ≡ fixed_bodies xs → pod ≡ word_bytes n ++ word_bytes choice_type →
    choice ≡ word_bytes shape ++ word_bytes flags → child ≡ word_bytes s ++ word_bytes t →
    n ≡ length (choice_body shape flags k (xs ++ ys)) → s ≡ body_size k → t ≡ type_number k →
    take (24 + m) start ++ (fixed_bodies ys ++ padding n) ≡ encoded_pod choice_type
    (choice_body shape flags k (xs ++ ys))
choice_encoding k xs ys pod choice child bodies start n shape flags s t m e b p c h en es et =
    let head : List ℕ = (pod ++ choice) ++ child in
    let spelt : head ≡ ((word_bytes n ++ word_bytes choice_type) ++
    (word_bytes shape ++ word_bytes flags)) ++ (word_bytes
    (body_size k) ++ word_bytes (type_number k)) =
    cc in
    let l0 = ap length spelt in
    let l1 =
    length-append ((word_bytes n ++ word_bytes choice_type) ++
    (word_bytes shape ++ word_bytes flags)) (word_bytes (body_size k)
    ++ word_bytes (type_number k)) in
    let l2 =
    length-append (word_bytes n ++ word_bytes choice_type)
    (word_bytes shape ++ word_bytes flags) in
    let l3 = two_words_length n choice_type in
    let l4 = two_words_length shape flags in
    let l5 = two_words_length (body_size k) (type_number k) in
    let l : length head ≡ 24 = omega arith in
    let first : take (24 + m) start ≡ head ++ fixed_bodies xs =
    ap (take (24 + m)) e ∙ ap (λ i. take (i + m) (head ++ bodies)) (sym l) ∙ take-append-add
    head bodies m ∙ ap (λ x. head ++ x) b in
    ap (λ x. x ++ (fixed_bodies ys ++ padding n)) (first ∙ ap (λ x. x ++ fixed_bodies xs) spelt)
    ∙ regroup (word_bytes n) (word_bytes choice_type) (word_bytes shape) (word_bytes flags)
    (word_bytes (body_size k)) (word_bytes (type_number k)) (fixed_bodies xs) (fixed_bodies ys)
    (padding n)
    ∙ ap (λ x. word_bytes n ++
    (word_bytes choice_type ++
    ((word_bytes shape ++
    (word_bytes flags ++ (word_bytes (body_size k) ++ (word_bytes (type_number k) ++ x)))) ++
    padding n))) (sym (fixed_bodies-append xs ys))
    ∙ ap (λ i. word_bytes i ++
    (word_bytes choice_type ++ (choice_body shape flags k (xs ++ ys) ++ padding i))) en

-- the bytes that are put for a choice, where the first bodies are those of values of the size that the code read
pub choice_put : {A : Type 0} {B : Type 0} (k : Kind) (e : A → Fixed) (f : B → Fixed)
    (xs : List A) (ys : List B) (pod choice child bodies start : List ℕ)
    (n shape flags s t own read : ℕ) → start ≡ ((pod ++ choice) ++ child) ++ bodies →
    take (length xs * own) bodies ≡ fixed_bodies (map e xs) → read ≡ own →
    pod ≡ word_bytes n ++ word_bytes choice_type → choice ≡ word_bytes shape ++ word_bytes flags →
    child ≡ word_bytes s ++ word_bytes t →
    n ≡ length (choice_body shape flags k (map e xs ++ map f ys)) → s ≡ body_size k →
    t ≡ type_number k →
    take (24 + length xs * read) start ++ (fixed_bodies (map f ys) ++ padding n) ≡
    encoded_pod choice_type (choice_body shape flags k (map e xs ++ map f ys))
choice_put k e f xs ys pod choice child bodies start n shape flags s t own read st b r p c h en es
    et =
    choice_encoding k (map e xs) (map f ys) pod choice child bodies start n shape flags s t
    (length xs * read) st (ap (λ m. take (length xs * m) bodies) r ∙ b) p c h en es et

-- how long the body is of a choice that holds these values
pub length-choice : {T : Type 0} (shape flags : ℕ) (k : Kind) (f : T → Fixed) (s : ℕ) (vs : List T) →
    ((v : T) → kind_of (f v) ≡ k) → s ≡ body_size k →
    length (choice_body shape flags k (map f vs)) ≡ 16 + length vs * s
length-choice shape flags k f s vs t z =
    let l0 = length-behind_two shape flags (array_body k (map f vs)) in
    let l4 = array_length k (map f vs) in
    let l5 = bodies_length k f s vs t z in
    omega arith
