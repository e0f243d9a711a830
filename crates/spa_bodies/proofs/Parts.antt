-- What a sink takes of bytes that come in parts, and where it stops.
use Rattle.std.proofs.Common.{◌≡◌, ℕ, List, ◌++◌, length, take, Result, Ok, Err, IfErr, OnErr, sym, subst, arith, length-append}
use Rattle.spa_sink.specs.declared.gen_error.GenError.{GenError}
use Rattle.spa_sink.specs.Writing.{Sent}
use Rattle.spa_sink.proofs.Sending.{AppendsMore, RefusesAfter, RefusesLonger, begun_behind, begun_by, begun_first, refused_behind}
use Rattle.spa_format.specs.Words.{word_bytes}
use Rattle.spa_format.proofs.Encodings.{two_words_length}
use Rattle.spa_bodies.specs.Written.{Appending, Refusing, Stops}

-- what a sink promises of bytes in parts
pub record TakesParts {S : Type 0} (appends : Appending S) (refuses : Refusing S) : Type 0 where
  pub more : AppendsMore appends
  pub after : RefusesAfter appends refuses
  pub longer : RefusesLonger refuses

-- where it stops within one piece
pub stop_by : {S : Type 0} {appends : Appending S} {refuses : Refusing S} (a b : S) (n : ℕ) (xs : List ℕ)
    (e : GenError) → appends a (take n xs) b → refuses a (length xs) b e → Stops appends refuses a xs b e
stop_by a b n xs e p r = record { begun = begun_by a b n xs p; cause = r }

-- within the first of two parts
pub stop_first : {S : Type 0} {appends : Appending S} {refuses : Refusing S} → TakesParts appends refuses →
    (a b : S) (xs ys : List ℕ) (e : GenError) → Stops appends refuses a xs b e →
    Stops appends refuses a (xs ++ ys) b e
stop_first s a b xs ys e h =
    record {
      begun = begun_first a b xs ys h.begun;
      cause = s.longer a b (length xs) (length (xs ++ ys)) e (omega (arith, length-append xs ys)) h.cause;
    }

-- within the second
pub stop_behind : {S : Type 0} {appends : Appending S} {refuses : Refusing S} → TakesParts appends refuses →
    (a b c : S) (xs ys : List ℕ) (e : GenError) → Sent appends a xs b → Stops appends refuses b ys c e →
    Stops appends refuses a (xs ++ ys) c e
stop_behind {refuses = refuses} s a b c xs ys e p h =
    record {
      begun = begun_behind s.more a b c xs ys p h.begun;
      cause = subst (λ n. refuses a n c e) (sym (length-append xs ys)) (refused_behind s.after a b c xs (length ys) e p h.cause);
    }

-- within the same bytes, written otherwise
pub stop_as : {S : Type 0} {appends : Appending S} {refuses : Refusing S} (a b : S) (xs ys : List ℕ)
    (e : GenError) → xs ≡ ys → Stops appends refuses a xs b e → Stops appends refuses a ys b e
stop_as {appends = appends} {refuses = refuses} a b xs ys e p h =
    subst (λ l. Stops appends refuses a l b e) p h

-- where a header stops
pub two_stop : {S : Type 0} {appends : Appending S} {refuses : Refusing S} (a c : S) (x y n : ℕ) (e : GenError) →
    appends a (take n (word_bytes x ++ word_bytes y)) c → refuses a 8 c e →
    Stops appends refuses a (word_bytes x ++ word_bytes y) c e
two_stop {refuses = refuses} a c x y n e p r =
    stop_by a c n (word_bytes x ++ word_bytes y) e p (subst (λ m. refuses a m c e) (sym (two_words_length x y)) r)

-- two facts of a refusal as one
pub both : {T E P : Type 0} {Q R : E → Type 0} (r : Result T E) → ((e : E) → P → Q e → R e) → OnErr r P →
    IfErr r Q → IfErr r R
both (Ok x) f p q = tt
both (Err e) f p q = f e p q
