-- The next pod of a remainder, by the walk over it.
use Rattle.std.proofs.Common.{◌≡◌, ℕ, List, Some, None, length, ap, sym, ◌∙◌, arith}
use Rattle.std.proofs.lemmas.List.{take_all}
use Rattle.std.specs.Prelude.{false, cond, slice_get}
use Rattle.spa_format.specs.Words.{word_at, extent}
use Rattle.spa_format.specs.Front.{HasFront, front_of}
use Rattle.spa_format.specs.Walk.{walk}
use Rattle.spa_format.proofs.WalkLemmas.{walk-there, walk-end}
use Rattle.spa_parser.specs.State.{Remainder, next_of}

next_of-walk : (r : Remainder) → r.of_object ≡ false → next_of r ≡ slice_get (walk r.bytes) 0
next_of-walk r o = ap (λ z. cond z None (slice_get (walk r.bytes) 0)) o

-- outside an object it is the front
pub next_of-there : (r : Remainder) (pod : List ℕ) → r.of_object ≡ false → HasFront r.bytes → pod ≡ front_of r.bytes →
    next_of r ≡ Some pod
next_of-there r pod o h e =
    next_of-walk r o ∙ ap (λ pods. slice_get pods 0) (walk-there r.bytes h) ∙ ap (λ p. Some p) (sym e)

-- and none, where no front is there
pub next_of-end : (r : Remainder) → r.of_object ≡ false → ¬ (HasFront r.bytes) → next_of r ≡ None
next_of-end r o h = next_of-walk r o ∙ ap (λ pods. slice_get pods 0) (walk-end r.bytes h)

-- a whole pod is the next one of its own bytes
pub next_of-whole : (r : Remainder) → r.of_object ≡ false → length r.bytes ≡ extent (word_at r.bytes 0) →
    next_of r ≡ Some r.bytes
next_of-whole r o e =
    next_of-there r r.bytes o (record { header = omega arith; whole = omega arith }) (sym (take_all (extent (word_at r.bytes 0)) r.bytes (omega arith)))
