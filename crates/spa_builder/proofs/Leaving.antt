-- A tree that is given up.
use Rattle.std.proofs.Common.{◌≡◌, ℕ, ◌+◌, ◌≤◌, ◌^◌, List, [], ◌∷◌, ◌++◌, length, take, refl, sym, ap, ◌∙◌, arith, false, true, eq-eqb}
use Rattle.std.specs.Prelude.{nat_eq, nat_lt, cond, Some, None}
use Rattle.std.proofs.lemmas.List.{take_at}
use Rattle.std.proofs.lemmas.Bool.{lt-ltb, and_parts, and_from}
use borrow.Author.Tests.{ltb-true}
use Rattle.spa_format.specs.Words.{extent}
use Rattle.spa_format.specs.Tree.{Trees}
use Rattle.spa_format.specs.Encoding.{member_encodings}
use Rattle.spa_builder.specs.State.{Partial, State}
use Rattle.spa_builder.specs.Step.{state_after_abandon, all_fit, own_size}
use Rattle.spa_builder.specs.Fields.{BuilderFields, IsAt, all_so_far, frames_of, so_far}
use Rattle.spa_builder.specs.declared.begun.BegunPod.{BegunPod}
use Rattle.spa_builder.proofs.FrameLists.{length-frames_of}
use Rattle.spa_builder.proofs.Steps.{Closing}

-- the state without the innermost tree
abbrev pub without : Trees → List Partial → State
without closed rest = record { closed = closed; opened = rest }

-- with fewer bytes inside, sizes fit as before
pub fewer_fit : (ps : List Partial) (n m : ℕ) → n ≤ m → all_fit m ps ≡ true → all_fit n ps ≡ true
fewer_fit [] n m l h = refl
fewer_fit (p ∷ ps) n m l h =
    let b = and_parts (nat_lt (own_size p + m) (2 ^ 32)) (all_fit (extent (own_size p + m)) ps) h in
    let t = ltb-true (own_size p + m) (2 ^ 32) b.0 in
    and_from (nat_lt (own_size p + n) (2 ^ 32)) (all_fit (extent (own_size p + n)) ps)
    (lt-ltb (own_size p + n) (2 ^ 32) (omega arith))
    (fewer_fit ps (extent (own_size p + n)) (extent (own_size p + m)) (omega arith) b.1)

pub abandoned_is : (closed : Trees) (ops : List Partial) (p : Partial) (rest : List Partial)
    (frame : ℕ) → ops ≡ p ∷ rest → frame ≡ length ops →
    state_after_abandon closed ops frame ≡ Some (without closed rest)
abandoned_is closed ops p rest frame e f =
    ap (λ l. state_after_abandon closed l frame) e
    ∙ ap (λ b. cond b (Some (without closed rest)) None)
    (eq-eqb frame (length (p ∷ rest)) (f ∙ ap length e))

pub abandoned_other : (closed : Trees) (ops : List Partial) (frame : ℕ) →
    nat_eq frame (length ops) ≡ false → state_after_abandon closed ops frame ≡ None
abandoned_other closed [] frame e = refl
abandoned_other closed (p ∷ rest) frame e =
    ap (λ b. cond b (Some (without closed rest)) None) e

-- the bytes and the frames from before its push hold the state without it
pub is_without : (old new : BuilderFields) (s : State) (o : BegunPod) (p : Partial) (rest : List Partial) →
    Closing old s o p rest → new.bytes ≡ take o.start old.bytes →
    new.frames ≡ frames_of (length (member_encodings s.closed)) rest →
    IsAt new (without s.closed rest)
is_without old new s o p rest k b f = record {
  bytes = b ∙ ap (take o.start) k.bytes
      ∙ take_at (member_encodings s.closed ++ all_so_far rest) (so_far p) o.start (sym k.start);
  frames = f;
  nested = k.nested;
  fit = fewer_fit rest 0 (extent (own_size p)) (omega arith) k.fit;
}

-- no tree is open
pub none_opened : (ps : List Partial) → length ps ≤ 0 → ps ≡ []
none_opened [] h = refl
none_opened (p ∷ ps) h = absurd (omega arith)

pub count_of : (h : BuilderFields) (s : State) → IsAt h s → length h.frames ≡ length s.opened
count_of h s at = ap length at.frames
    ∙ length-frames_of (length (member_encodings s.closed)) s.opened
