use Rattle.std.proofs.Common.{ap, subst}
use Rattle.libspa.specs.View.{object_view, view}
use Rattle.spa_negotiate.specs.Meeting.{Meet}
use Rattle.spa_negotiate.specs.Refusals.{AreRefused}
use Rattle.example_calls.proofs.Fronts.{if_ok, objects_refused, passed_on, written}
use Rattle.example_calls.proofs.meeting.negotiate_by_values.Goals as goal

pub returns-in_err-met-clause-refused : goal.returns-in_err-met-clause-refused
returns-in_err-met-clause-refused c =
    let v = view c.in_ok-first.first in
    let w = view c.in_ok-second.second in
    let refused : AreRefused v w c.in_err-met.field-0.0 =
    subst (λ t. AreRefused t w c.in_err-met.field-0.0) (ap view c.deref.ensures)
    (subst (λ t. AreRefused (view c.deref.result.now) t c.in_err-met.field-0.0) (ap view c.deref-2.ensures) c.in_err-met.ensures.cause) in
    passed_on _ _ _ c.from_residual-in_err-met.ensures.1
    (c.refused_fronts_cannot_meet.ensures c.args.a.now c.args.b.now _
    (objects_refused c.args.a.now c.args.b.now v w c.in_ok-first.ensures.value c.in_ok-second.ensures.value _ refused))

pub returns-clause-fixated : goal.returns-clause-fixated
returns-clause-fixated c =
    let v = view c.in_ok-first.first in
    let w = view c.in_ok-second.second in
    let x = object_view c.in_ok-met.met in
    let met : Meet v w x =
    subst (λ t. Meet t w x) (ap view c.deref.ensures)
    (subst (λ t. Meet (view c.deref.result.now) t x) (ap view c.deref-2.ensures) c.in_ok-met.ensures.value) in
    if_ok c.encoded.result (λ bytes m. c.meetings_need_no_fixation.ensures c.args.a.now c.args.b.now bytes.items m)
    (written c.args.a.now c.args.b.now v w x c.in_ok-first.ensures.value c.in_ok-second.ensures.value met _ c.encoded.ensures.encoding c.encoded.ensures.pod)
