use Rattle.std.proofs.Common.{◌∙◌, ap, not, sym, subst}
use Rattle.spa_object_view.proofs.Sides.{IsSideLeft, side_begun, side_ended, side_next, side_on}
use Rattle.spa_object_view.specs.Answers.{AreMetBehind}
use Rattle.spa_object_view.proofs.Meetings.{other_put, other_refused, seen}
use Rattle.spa_object_view.proofs.meeting.put_others.Goals.{then-is_new_beside+in_ok-put_alone, else-is_new_beside}
use Rattle.spa_bytes.proofs.Passing.{passed_on}
use Rattle.spa_object_view.proofs.meeting.put_others.Goals as goal

pub loop-first-init : goal.loop-first-init
loop-first-init g c = λ ps qs head w v m. side_begun ps qs c.args.theirs.now.properties.now _ c.requires.second.bytes v m

pub loop-first-preserved : goal.loop-first-preserved
loop-first-preserved g c = λ ps qs head w v m.
    let first = c.in-Some.ensures.first in
    let n = side_next first (c.loop-first.invariant ps qs head w v m) in
    let said = c.is_new_beside.ensures ps qs n.done _ w v n.passed n.below first in
    let up = c.raised-bound.ensures in
    elim c.if-is_new_beside.branch [
      | then-is_new_beside+in_ok-put_alone b ↦
          subst (λ o. IsSideLeft ps qs c.args.theirs.now.properties.now c.in-Some.first.rest.now c.raised-bound.result (λ these. AreMetBehind g.R.Rule.holds ps qs these head o))
          (sym b.out-is)
          (side_on n up.0 up.1 (other_put n (said ∙ ap not b.if-is_new_beside.true) c.in-Some.ensures.words.0 (b.in_ok-put_alone.ensures.second n.value n.written)))
      | else-is_new_beside b ↦
          subst (λ o. IsSideLeft ps qs c.args.theirs.now.properties.now c.in-Some.first.rest.now c.raised-bound.result (λ these. AreMetBehind g.R.Rule.holds ps qs these head o))
          (sym b.out-is)
          (side_on n up.0 up.1 (seen _ _ n.value (said ∙ ap not b.if-is_new_beside.false) n.holds))
    ]

pub returns-in_err-put_alone-clause-cause : goal.returns-in_err-put_alone-clause-cause
returns-in_err-put_alone-clause-cause g c =
    passed_on _ _ _ c.from_residual.ensures.1
    (λ ps qs head w v m.
    let first = c.in-Some.ensures.first in
    let n = side_next first (c.loop-first.invariant ps qs head w v m) in
    let said = c.is_new_beside.ensures ps qs n.done _ w v n.passed n.below first in
    other_refused n (said ∙ ap not c.if-is_new_beside.true) _ (c.in_err-put_alone.ensures.second_cause n.value))

pub returns-clause-put : goal.returns-clause-put
returns-clause-put g c = λ ps qs head w v m. side_ended c.in_default.ensures.none (c.loop-first.invariant ps qs head w v m)
