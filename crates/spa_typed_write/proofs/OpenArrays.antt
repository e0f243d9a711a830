-- Arrays whose elements aren't all there.
use Rattle.std.proofs.Common.{◌≡◌, ℕ, ◌+◌, ◌-◌, ◌*◌, ◌<◌, List, ◌++◌, length, take, drop, refl, sym, ap, ◌∙◌, subst, arith, append_assoc, length-append, length-drop}
use Rattle.std.proofs.Math.Nat.{add-mul}
use Rattle.std.proofs.lemmas.List.{drop-append-le, drop_at, length-take-le, take-append-le, take_at}
use Rattle.spa_format.specs.Words.{header_size, padding, size_limit, word_bytes}
use Rattle.spa_format.specs.Encoding.{encoded_pod}
use Rattle.spa_format.specs.Tree.{array_type}
use Rattle.spa_typed_write.specs.Unfinished.{IsUnfinishedArray, UnfinishedArray, array_at, array_output_bytes}
use Rattle.spa_format.proofs.Encodings.{two_words_length}

-- what stands there once the two headers are appended
pub array_begun_at : (left : ℕ) (old head child b : List ℕ) → length head ≡ header_size →
    b ≡ old ++ (head ++ child) →
    array_at (length old) left b ≡ record { before = old; body = child; left = left }
array_begun_at left old head child b size is =
    let front : take (length old) b ≡ old =
    ap (take (length old)) is ∙ take_at old (head ++ child) (length old) refl in
    let behind : drop (length old + header_size) b ≡ child =
    ap (drop (length old + header_size)) (is ∙ sym (append_assoc old head child))
    ∙ drop_at (old ++ head) child (length old + header_size)
    (length-append old head ∙ ap (λ n. length old + n) size) in
    rw (front, behind) refl

-- no element yet
pub array_begun_is : (size left : ℕ) (old child b : List ℕ) → length child ≡ header_size →
    header_size + left * size < size_limit →
    b ≡ old ++ ((word_bytes (header_size + left * size) ++ word_bytes array_type) ++ child) →
    IsUnfinishedArray size (length old) left b
array_begun_is size left old child b k fits is =
    let head = word_bytes (header_size + left * size) ++ word_bytes array_type in
    let two = two_words_length (header_size + left * size) array_type in
    let at = array_begun_at left old head child b two is in
    let body = ap (λ (w : UnfinishedArray). length w.body) at in
    record {
      room = omega (arith, ap length is, length-append old (head ++ child), length-append head child, two);
      split = is ∙ sym (ap (array_output_bytes size) at ∙ ap (λ m. old ++ ((word_bytes (m + left * size) ++ word_bytes array_type) ++ child)) k);
      fits = omega (arith, fits, body, k);
    }

-- one element more
pub array_grown_is : (size start left : ℕ) (b t : List ℕ) → IsUnfinishedArray size start left b →
    0 < left → length t ≡ size → IsUnfinishedArray size start (left - 1) (b ++ t)
array_grown_is size start left b t h some e =
    let body = drop (start + header_size) b in
    let front : take start (b ++ t) ≡ take start b = take-append-le start b t (omega (arith, h.room)) in
    let behind : drop (start + header_size) (b ++ t) ≡ body ++ t =
    drop-append-le (start + header_size) b t h.room in
    let one : left ≡ (left - 1) + 1 = omega arith in
    let product : left * size ≡ (left - 1) * size + 1 * size =
    ap (λ n. n * size) one ∙ add-mul (left - 1) 1 size in
    let counted : length body + left * size ≡ length (body ++ t) + (left - 1) * size =
    omega (arith, product, e, length-append body t) in
    let head = word_bytes (length body + left * size) ++ word_bytes array_type in
    record {
      room = omega (arith, h.room, length-append b t);
      split = rw (front, behind)
          (ap (λ l. l ++ t) h.split ∙ append_assoc (take start b) (head ++ body) t
          ∙ ap (λ l. take start b ++ l) (append_assoc head body t)
          ∙ ap (λ n. take start b ++ ((word_bytes n ++ word_bytes array_type) ++ (body ++ t))) counted);
      fits = rw behind (omega (arith, h.fits, counted));
    }

pub array_grown_to : (size start left : ℕ) (b t c : List ℕ) → IsUnfinishedArray size start left b →
    0 < left → length t ≡ size → c ≡ b ++ t → IsUnfinishedArray size start (left - 1) c
array_grown_to size start left b t c h some e is =
    subst (IsUnfinishedArray size start (left - 1)) (sym is) (array_grown_is size start left b t h some e)

pub array_grown_at : (size start left : ℕ) (b t c : List ℕ) → IsUnfinishedArray size start left b → c ≡ b ++ t →
    array_at start (left - 1) c
    ≡ record { before = take start b; body = drop (start + header_size) b ++ t; left = left - 1 }
array_grown_at size start left b t c h is =
    let front : take start c ≡ take start b =
    ap (take start) is ∙ take-append-le start b t (omega (arith, h.room)) in
    let behind : drop (start + header_size) c ≡ drop (start + header_size) b ++ t =
    ap (drop (start + header_size)) is ∙ drop-append-le (start + header_size) b t h.room in
    rw (front, behind) refl

-- all elements, and the padding behind them
pub array_ended_there : (size start left n : ℕ) (b c : List ℕ) → IsUnfinishedArray size start left b → left ≡ 0 →
    n ≡ length b - (start + header_size) → c ≡ b ++ padding n →
    c ≡ take start b ++ encoded_pod array_type (drop (start + header_size) b)
array_ended_there size start left n b c h none k is =
    let old = take start b in
    let body = drop (start + header_size) b in
    let word = word_bytes (length body) in
    let sized : n ≡ length body = omega (arith, k, length-drop (start + header_size) b) in
    let counted : length body + left * size ≡ length body = omega (arith, ap (λ m. m * size) none) in
    let there : b ≡ old ++ ((word ++ word_bytes array_type) ++ body) =
    h.split ∙ ap (λ m. old ++ ((word_bytes m ++ word_bytes array_type) ++ body)) counted in
    is ∙ ap (λ m. b ++ padding m) sized ∙ ap (λ l. l ++ padding (length body)) there
    ∙ append_assoc old ((word ++ word_bytes array_type) ++ body) (padding (length body))
    ∙ ap (λ l. old ++ l)
    (append_assoc (word ++ word_bytes array_type) body (padding (length body))
    ∙ append_assoc word (word_bytes array_type) (body ++ padding (length body)))

pub array_ended_count : (size start left n : ℕ) (b c : List ℕ) → IsUnfinishedArray size start left b → left ≡ 0 →
    n ≡ length b - (start + header_size) → c ≡ b ++ padding n →
    length c - start ≡ length (encoded_pod array_type (drop (start + header_size) b))
array_ended_count size start left n b c h none k is =
    let body = drop (start + header_size) b in
    let kept : length (take start b) ≡ start = length-take-le start b (omega (arith, h.room)) in
    omega (arith, ap length (array_ended_there size start left n b c h none k is), length-append (take start b) (encoded_pod array_type body), kept)
