use Rattle.std.proofs.Common.{◌≡◌, arith, inl, inr, length}
use Rattle.std.proofs.lemmas.Bool.{cases_lt}
use Rattle.std.proofs.lemmas.List.{nil_from_length}
use Rattle.spa_format.specs.Front.{rest_of}
use Rattle.spa_canonical.proofs.Frames.{more_stretch, no_stretch, rest_bytes}
use Rattle.spa_canonical.proofs.Made.{made_members}
use Rattle.spa_canonical.proofs.Opened.{shallow_rest}
use Rattle.spa_canonical.proofs.look.behind_canonical_pods.Goals as goal

pub loop-rest-init : goal.loop-rest-init
loop-rest-init c = (omega arith, λ r s. s, λ i. omega (arith, c.type_inv.pods i), λ s. s)

pub loop-rest-preserved : goal.loop-rest-preserved
loop-rest-preserved c =
    let shorter = c.in-Some.ensures.shorter in
    let bytes = c.loop-rest.invariant.2 in
    let taken = c.in-Some.ensures.taken in (
      omega arith,
      λ r s. c.loop-rest.invariant.1 r (more_stretch _ _ r taken s),
      rest_bytes _ _ bytes taken,
      λ s. shallow_rest _ _ _ bytes (omega arith) taken.begins.follows (c.loop-rest.invariant.3 s),
    )

pub returns-clause-stretch : goal.returns-clause-stretch
returns-clause-stretch c = c.loop-rest.invariant.1 _ (no_stretch _)

pub returns-clause-all : goal.returns-clause-all
returns-clause-all c = λ s.
    let left = c.loop-rest.left.now in
    let bytes = c.loop-rest.invariant.2 in
    let shallow = c.loop-rest.invariant.3 s in
    let empty : length left ≡ 0 =
    elim (cases_lt 0 (length left)) [
      | inl some ↦
          let m = made_members left bytes some shallow.pods in
          let deep = c.in_default.ensures.missed (rest_of left) m.first in
          absurd (omega arith)
      | inr none ↦ omega arith
    ] in
    nil_from_length left empty
