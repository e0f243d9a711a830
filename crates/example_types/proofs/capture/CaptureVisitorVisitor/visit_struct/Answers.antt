use Rattle.std.proofs.lemmas.Result.{err_from_is_err_and}
use Rattle.libspa.specs.Exactly.{behind, first, missing}
use Rattle.std.proofs.Common.{refl}
use Rattle.example_types.proofs.Captures.{capture_declined, capture_left, capture_taken}
use Rattle.example_types.proofs.capture.CaptureVisitorVisitor.visit_struct.Goals as goal

pub returns-in_err-size-clause-declined : goal.returns-in_err-size-clause-declined
returns-in_err-size-clause-declined c =
    let p = err_from_is_err_and c.from_residual.result c.from_residual.ensures.1 in
    rw (p.1, p.2)
    (capture_declined c.members_are_fronts.ensures.parts _ _ _
    (λ good.
    let r = c.in_err-size.ensures.refused good in
    first r.0 r.1))

pub returns-in_default-clause-declined : goal.returns-in_default-clause-declined
returns-in_default-clause-declined c =
    let end = rw c.in_default.is at c.in_ok-size.ensures.field in
    capture_declined c.members_are_fronts.ensures.parts _ _ _ (λ good. missing end.1.none_left refl)

pub returns-in_err-rate-clause-declined : goal.returns-in_err-rate-clause-declined
returns-in_err-rate-clause-declined c =
    let size = rw c.in-Some.is at c.in_ok-size.ensures.field in
    let p = err_from_is_err_and c.from_residual-in_err-rate.result c.from_residual-in_err-rate.ensures.1 in
    rw (p.1, p.2)
    (capture_declined c.members_are_fronts.ensures.parts _ _ _
    (λ good. behind c.in-Some.size _ size.field (c.in_err-rate.ensures.refused size.good)))

pub returns-in_err-rate-clause-same : goal.returns-in_err-rate-clause-same
returns-in_err-rate-clause-same c =
    c.readers_go_further.ensures.members _ _ _ c.deserialize_field.ensures.same c.deserialize_field-2.ensures.same

pub returns-clause-same : goal.returns-clause-same
returns-clause-same c =
    c.readers_go_further.ensures.members _ _ _ c.deserialize_field.ensures.same c.deserialize_field-2.ensures.same

pub returns-clause-left : goal.returns-clause-left
returns-clause-left c =
    let size = rw c.in-Some.is at c.in_ok-size.ensures.field in
    capture_left c.members_are_fronts.ensures.parts _ _ _ c.in-Some.size c.in_ok-rate.rate size c.in_ok-rate.ensures.field

pub returns-clause-made : goal.returns-clause-made
returns-clause-made c =
    let size = rw c.in-Some.is at c.in_ok-size.ensures.field in
    capture_taken c.members_are_fronts.ensures.whole _ _ _ c.in-Some.size c.in_ok-rate.rate size c.in_ok-rate.ensures.field
