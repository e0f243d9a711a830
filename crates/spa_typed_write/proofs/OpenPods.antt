-- Structs and objects that aren't closed.
use Rattle.std.proofs.Common.{◌≡◌, ℕ, ◌+◌, ◌-◌, ◌≤◌, List, [], ◌++◌, length, take, drop, refl, sym, ap, ◌∙◌, subst, arith, append_assoc, length-append, length-drop}
use Rattle.std.proofs.lemmas.List.{append-nil, drop-append-le, drop_all, length-take-le, take-append-le, take_at}
use Rattle.spa_format.specs.Words.{header_size, word_bytes}
use Rattle.spa_format.specs.Encoding.{encoded_body, encoding_of, encoded_pod}
use Rattle.spa_format.specs.Tree.{Tree, type_of}
use Rattle.spa_bodies.specs.Written.{IsWholeSize, begun_length}
use Rattle.spa_typed_write.specs.Unfinished.{IsUnfinished, Unfinished, output_bytes, open_pod_at}
use Rattle.spa_format.proofs.Encodings.{length-encoded_pod, two_words_length}
use Rattle.spa_bodies.proofs.Frames.{sized_encoding}

-- bytes behind others
pub behind_length : (a b t : List ℕ) → b ≡ a ++ t → length b ≡ length a + length t
behind_length a b t is = ap length is ∙ length-append a t

-- what stands there once a header is appended
pub begun_at : (type : ℕ) (old b : List ℕ) → b ≡ old ++ (word_bytes 0 ++ word_bytes type) →
    open_pod_at type (length old) b ≡ record { type = type; before = old; body = [] }
begun_at type old b is =
    let head = word_bytes 0 ++ word_bytes type in
    let size = two_words_length 0 type in
    let front : take (length old) b ≡ old = ap (take (length old)) is ∙ take_at old head (length old) refl in
    let behind : drop (length old + header_size) b ≡ [] =
    drop_all (length old + header_size) b (omega (arith, ap length is, length-append old head, size)) in
    rw (front, behind) refl

-- a header alone
pub begun_is : (type : ℕ) (old b : List ℕ) → b ≡ old ++ (word_bytes 0 ++ word_bytes type) →
    IsUnfinished type (length old) b
begun_is type old b is =
    let head = word_bytes 0 ++ word_bytes type in
    let size = two_words_length 0 type in
    let at = begun_at type old b is in
    record {
      room = omega (arith, ap length is, length-append old head, size);
      split = is ∙ ap (λ l. old ++ l) (sym (append-nil head)) ∙ sym (ap output_bytes at);
      whole = rw (ap (λ (w : Unfinished). w.body) at) refl;
    }

-- more bytes behind it
pub grown_is : (type start : ℕ) (b t : List ℕ) → IsUnfinished type start b → IsWholeSize (length t) →
    IsUnfinished type start (b ++ t)
grown_is type start b t h e =
    let front : take start (b ++ t) ≡ take start b = take-append-le start b t (omega (arith, h.room)) in
    let behind : drop (start + header_size) (b ++ t) ≡ drop (start + header_size) b ++ t =
    drop-append-le (start + header_size) b t h.room in
    let head = word_bytes 0 ++ word_bytes type in
    record {
      room = omega (arith, h.room, length-append b t);
      split = rw (front, behind) (ap (λ l. l ++ t) h.split ∙ append_assoc (take start b) (head ++ drop (start + header_size) b) t ∙ ap (λ l. take start b ++ l) (append_assoc head (drop (start + header_size) b) t));
      whole = rw behind (omega (arith, h.whole, e, length-append (drop (start + header_size) b) t));
    }

pub grown_to : (type start : ℕ) (b t c : List ℕ) → IsUnfinished type start b → IsWholeSize (length t) → c ≡ b ++ t →
    IsUnfinished type start c
grown_to type start b t c h e is = subst (IsUnfinished type start) (sym is) (grown_is type start b t h e)

pub grown_at : (type start : ℕ) (b t c : List ℕ) → IsUnfinished type start b → c ≡ b ++ t →
    open_pod_at type start c ≡ record { type = type; before = take start b; body = drop (start + header_size) b ++ t }
grown_at type start b t c h is =
    let front : take start c ≡ take start b =
    ap (take start) is ∙ take-append-le start b t (omega (arith, h.room)) in
    let behind : drop (start + header_size) c ≡ drop (start + header_size) b ++ t =
    ap (drop (start + header_size)) is ∙ drop-append-le (start + header_size) b t h.room in
    rw (front, behind) refl

-- two words, and a value behind them
pub property_bytes : (key flags : ℕ) (a b c t : List ℕ) → b ≡ a ++ (word_bytes key ++ word_bytes flags) → c ≡ b ++ t →
    c ≡ a ++ (word_bytes key ++ (word_bytes flags ++ t))
property_bytes key flags a b c t words put =
    put ∙ ap (λ l. l ++ t) words ∙ append_assoc a (word_bytes key ++ word_bytes flags) t
    ∙ ap (λ l. a ++ l) (append_assoc (word_bytes key) (word_bytes flags) t)

pub property_length : (key flags : ℕ) (a b c t : List ℕ) → b ≡ a ++ (word_bytes key ++ word_bytes flags) → c ≡ b ++ t →
    length c ≡ length a + (header_size + length t)
property_length key flags a b c t words put =
    omega (arith, ap length put, ap length words, length-append b t, length-append a (word_bytes key ++ word_bytes flags), two_words_length key flags)

-- each encoding needs no padding
pub whole_encoding : (v : Tree) → IsWholeSize (length (encoding_of v))
whole_encoding v = omega (arith, length-encoded_pod (type_of v) (encoded_body v))

pub whole_words : (m n : ℕ) → IsWholeSize (length (word_bytes m ++ word_bytes n))
whole_words m n = rw (two_words_length m n) refl

-- the size that is written
pub begun_is_body : (type start : ℕ) (b : List ℕ) → IsUnfinished type start b →
    begun_length b start ≡ length (drop (start + header_size) b)
begun_is_body type start b h = omega (arith, h.room, length-drop (start + header_size) b)

-- the size word written
pub closed_there : (type start : ℕ) (b c : List ℕ) → IsUnfinished type start b →
    c ≡ take start b ++ (word_bytes (begun_length b start) ++ drop (start + 4) b) →
    c ≡ take start b ++ encoded_pod type (drop (start + header_size) b)
closed_there type start b c h e =
    let old = take start b in
    let body = drop (start + header_size) b in
    let all = output_bytes (open_pod_at type start b) in
    let kept : length old ≡ start = length-take-le start b (omega (arith, h.room)) in
    let size : begun_length b start ≡ length body =
    omega (arith, h.room, length-drop (start + header_size) b) in
    e ∙ ap (λ n. old ++ (word_bytes n ++ drop (start + 4) b)) size
    ∙ ap (λ (l : List ℕ). take start l ++ (word_bytes (length body) ++ drop (start + 4) l)) h.split
    ∙ ap (λ n. take n all ++ (word_bytes (length body) ++ drop (n + 4) all)) (sym kept)
    ∙ sized_encoding old body type h.whole

pub closed_count : (type start : ℕ) (b c : List ℕ) → IsUnfinished type start b →
    c ≡ take start b ++ (word_bytes (begun_length b start) ++ drop (start + 4) b) →
    length c - start ≡ length (encoded_pod type (drop (start + header_size) b))
closed_count type start b c h e =
    let body = drop (start + header_size) b in
    let kept : length (take start b) ≡ start = length-take-le start b (omega (arith, h.room)) in
    omega (arith, ap length (closed_there type start b c h e), length-append (take start b) (encoded_pod type body), kept)

pub closed_behind : (type start : ℕ) (b c : List ℕ) → IsUnfinished type start b →
    c ≡ take start b ++ (word_bytes (begun_length b start) ++ drop (start + 4) b) → start ≤ length c
closed_behind type start b c h e =
    let rest = word_bytes (begun_length b start) ++ drop (start + 4) b in
    let kept : length (take start b) ≡ start = length-take-le start b (omega (arith, h.room)) in
    omega (arith, ap length e, length-append (take start b) rest, kept)
