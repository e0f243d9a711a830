use Rattle.std.proofs.Common.{◌∙◌, ap, not, sym, subst}
use Rattle.spa_format.specs.Tree.{no_properties}
use Rattle.spa_object_view.proofs.Sides.{IsSideLeft, side_begun, side_ended, side_next, side_on}
use Rattle.spa_object_view.specs.Answers.{AreMetBehind}
use Rattle.spa_object_view.proofs.Meetings.{first_put, first_refused, none_passed, seen}
use Rattle.spa_object_view.proofs.meeting.put_first.Goals.{then-is_new+in_ok-put_of_first, else-is_new}
use Rattle.spa_bytes.proofs.Passing.{passed_on}
use Rattle.spa_object_view.proofs.meeting.put_first.Goals as goal

pub loop-first-init : goal.loop-first-init
loop-first-init g c = λ ps qs w v.
    side_begun no_properties ps c.args.ours.now.properties.now _ c.requires.first.bytes w (none_passed c.args.out.now c.requires.small)

pub loop-first-preserved : goal.loop-first-preserved
loop-first-preserved g c = λ ps qs w v.
    let first = c.in-Some.ensures.first in
    let n = side_next first (c.loop-first.invariant ps qs w v) in
    let said = c.is_new.ensures ps n.done _ w n.passed n.below first in
    let up = c.raised-bound.ensures in
    elim c.if-is_new.branch [
      | then-is_new+in_ok-put_of_first b ↦
          subst (λ o. IsSideLeft no_properties ps c.args.ours.now.properties.now c.in-Some.first.rest.now c.raised-bound.result (λ these. AreMetBehind g.R.Rule.holds ps qs these c.args.out.now.bytes.items o))
          (sym b.out-is)
          (side_on n up.0 up.1 (first_put n (said ∙ ap not b.if-is_new.true) c.in-Some.ensures.words.0 (b.in_ok-put_of_first.ensures.put n.value qs n.written v)))
      | else-is_new b ↦
          subst (λ o. IsSideLeft no_properties ps c.args.ours.now.properties.now c.in-Some.first.rest.now c.raised-bound.result (λ these. AreMetBehind g.R.Rule.holds ps qs these c.args.out.now.bytes.items o))
          (sym b.out-is)
          (side_on n up.0 up.1 (seen _ _ n.value (said ∙ ap not b.if-is_new.false) n.holds))
    ]

pub returns-in_err-put_of_first-clause-cause : goal.returns-in_err-put_of_first-clause-cause
returns-in_err-put_of_first-clause-cause g c =
    passed_on _ _ _ c.from_residual.ensures.1
    (λ ps qs w v.
    let first = c.in-Some.ensures.first in
    let n = side_next first (c.loop-first.invariant ps qs w v) in
    let said = c.is_new.ensures ps n.done _ w n.passed n.below first in
    first_refused n (said ∙ ap not c.if-is_new.true) _ (c.in_err-put_of_first.ensures.cause n.value qs n.written v))

pub returns-clause-put : goal.returns-clause-put
returns-clause-put g c = λ ps qs w v. side_ended c.in_default.ensures.none (c.loop-first.invariant ps qs w v)
