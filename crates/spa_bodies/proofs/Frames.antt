-- Pods whose size word is written after their body.
use Rattle.std.proofs.Common.{◌≡◌, ℕ, ◌+◌, ◌-◌, ◌<◌, ◌≤◌, List, [], ◌++◌, length, take, drop, refl, sym, ap, ◌∙◌, subst, arith, append_assoc, length-append}
use Rattle.std.specs.Prelude.{replicate}
use Rattle.std.proofs.lemmas.List.{append-nil, take_at, drop_at}
use Rattle.spa_sink.specs.declared.gen_error.GenError.{GenError}
use Rattle.spa_sink.specs.declared.gen_error.GenError.TheVariants.{TooLarge}
use Rattle.spa_sink.specs.Writing.{RefusesWrite}
use Rattle.spa_format.specs.Words.{header_size, padded_size, padding, size_limit, word_bytes}
use Rattle.spa_format.specs.Encoding.{encoded_pod}
use Rattle.spa_bodies.specs.Written.{ClosesPod, IsClosed, IsExtended, IsPastLimit, IsWholeSize, Refusing, begun_length}
use Rattle.spa_format.proofs.Encodings.{length-encoded_pod, length-word_bytes, two_words_length}

-- the body of a pod that was begun behind some bytes
begun_body : (old head body : List ℕ) → length head ≡ header_size →
    begun_length (old ++ (head ++ body)) (length old) ≡ length body
begun_body old head body h =
    let e0 = length-append old (head ++ body) in
    let e1 = length-append head body in
    omega arith

-- its encoding, once the size word is written
pub sized_encoding : (old body : List ℕ) (type : ℕ) → IsWholeSize (length body) →
    take (length old) (old ++ ((word_bytes 0 ++ word_bytes type) ++ body)) ++
    (word_bytes (length body) ++ drop (length old + 4) (old ++ ((word_bytes 0 ++ word_bytes type) ++ body)))
    ≡ old ++ encoded_pod type body
sized_encoding old body type whole =
    let b = old ++ ((word_bytes 0 ++ word_bytes type) ++ body) in
    let front : take (length old) b ≡ old =
    take_at old ((word_bytes 0 ++ word_bytes type) ++ body) (length old) refl in
    let apart : b ≡ (old ++ word_bytes 0) ++ (word_bytes type ++ body) =
    ap (λ l. old ++ l) (append_assoc (word_bytes 0) (word_bytes type) body)
    ∙ sym (append_assoc old (word_bytes 0) (word_bytes type ++ body)) in
    let behind : drop (length old + 4) b ≡ word_bytes type ++ body =
    ap (drop (length old + 4)) apart
    ∙ drop_at (old ++ word_bytes 0) (word_bytes type ++ body) (length old + 4)
    (length-append old (word_bytes 0) ∙ ap (λ m. length old + m) (length-word_bytes 0)) in
    let full : padded_size (length body) - length body ≡ 0 = omega (arith, whole) in
    let none : padding (length body) ≡ [] = ap (λ n. replicate n 0) full in
    let tail : word_bytes type ++ body ≡ word_bytes type ++ (body ++ padding (length body)) =
    ap (λ l. word_bytes type ++ l) (sym (append-nil body) ∙ ap (λ l. body ++ l) (sym none)) in
    ap (λ l. l ++ (word_bytes (length body) ++ drop (length old + 4) b)) front
    ∙ ap (λ l. old ++ (word_bytes (length body) ++ l)) (behind ∙ tail)

-- the length of a pod's body, from the output in which it was begun
pub begun_size : {S : Type 0} {content : S → List ℕ} {refuses : Refusing S} (a b : S) (start type : ℕ)
    (body : List ℕ) → start ≡ length (content a) →
    IsExtended content refuses a ((word_bytes 0 ++ word_bytes type) ++ body) b →
    begun_length (content b) start ≡ length body
begun_size {content = content} a b start type body s p =
    ap (λ l. begun_length l start) p.bytes
    ∙ ap (begun_length (content a ++ ((word_bytes 0 ++ word_bytes type) ++ body))) s
    ∙ begun_body (content a) (word_bytes 0 ++ word_bytes type) body (two_words_length 0 type)

-- a pod that was begun and closed
pub closed_encoding : {S : Type 0} {content : S → List ℕ} {refuses : Refusing S} (a b c : S)
    (start type : ℕ) (body : List ℕ) → IsWholeSize (length body) → start ≡ length (content a) →
    IsExtended content refuses a ((word_bytes 0 ++ word_bytes type) ++ body) b →
    IsClosed content refuses b start c →
    IsExtended content refuses a (encoded_pod type body) c × (length body < size_limit)
closed_encoding {content = content} {refuses = refuses} a b c start type body whole s p q =
    let inside = (word_bytes 0 ++ word_bytes type) ++ body in
    let size = begun_size a b start type body s p in
    let here : content c ≡ take (length (content a)) (content a ++ inside) ++ (word_bytes (length body) ++ drop (length (content a) + 4) (content a ++ inside)) =
    q.sized ∙ ap (λ n. take start (content b) ++ (word_bytes n ++ drop (start + 4) (content b))) size
    ∙ ap (λ l. take start l ++ (word_bytes (length body) ++ drop (start + 4) l)) p.bytes
    ∙ ap
    (λ n. take n (content a ++ inside) ++ (word_bytes (length body) ++ drop (n + 4) (content a ++ inside)))
    s in
    let e0 = length-encoded_pod type body in
    let e1 = length-append (word_bytes 0 ++ word_bytes type) body in
    let e2 = two_words_length 0 type in
    let f = q.fits in (
      record {
        bytes = here ∙ sized_encoding (content a) body type whole;
        room = λ after n e r.
            let P : ℕ → Type 0 = λ m. refuses a m after e in
            let same : length inside + n ≡ length (encoded_pod type body) + n = omega (arith, whole) in
            subst P same (p.room after n e (q.room after n e r));
      },
      omega arith,
    )

-- so the pod that was begun there is whole,
pub closes_pod : {S : Type 0} {content : S → List ℕ} {refuses : Refusing S} (b c : S) (start : ℕ) →
    IsClosed content refuses b start c → ClosesPod content refuses b start c
closes_pod b c start q a type body p whole = (closed_encoding a b c start type body whole p.place p.inside q).0

-- or its body is past 32 bits
pub past_limit : {S : Type 0} (content : S → List ℕ) (refuses : Refusing S) (b : S) (start : ℕ) →
    size_limit ≤ begun_length (content b) start → IsPastLimit content refuses b start
past_limit content refuses b start l a type body p =
    let size = begun_size a b start type body p.place p.inside in
    omega (arith, l, size)

-- the refusal of the size
pub size_refused : (nul large : Type 0) (other : GenError → Type 0) (big : Type 0) → (big → large) →
    (e : GenError) → (e ≡ TooLarge) × big → RefusesWrite nul large other e
size_refused nul large other big f e r =
    let P : GenError → Type 0 = RefusesWrite nul large other in
    let h : P TooLarge = record { cause = f r.1 } in
    subst P (sym r.0) h
