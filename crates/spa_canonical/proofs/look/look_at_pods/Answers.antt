use Rattle.std.proofs.Common.{ap, arith, length, length-append, sym, ◌∙◌}
use Rattle.std.proofs.lemmas.Bool.{eqb-false, eqb-true}
use Rattle.spa_canonical.proofs.Accepted.{fewer_left, missed_behind, rejected_first}
use Rattle.spa_canonical.proofs.Changed.{all_changed, first_pods, no_changes, others_more, stretch_passed}
use Rattle.spa_canonical.proofs.look.look_at_pods.Goals as goal

pub loop-frames-init : goal.loop-frames-init
loop-frames-init c = no_changes _

pub returns-in-Err-clause-missed : goal.returns-in-Err-clause-missed
returns-in-Err-clause-missed c =
    let some = eqb-false _ 0 (sym c.is_empty.ensures ∙ c.loop-frames-test.true) in
    missed_behind _ _ (first_pods _ _ _ _ c.loop-frames.invariant) (rejected_first _ _ (omega (arith, some)) c.in-Err.ensures.rejected)

pub returns-in-Err-clause-left : goal.returns-in-Err-clause-left
returns-in-Err-clause-left c =
    let some = eqb-false _ 0 (sym c.is_empty.ensures ∙ c.loop-frames-test.true) in
    let h = first_pods _ _ _ _ c.loop-frames.invariant in
    (h.values, h.first, h.parts, h.members, λ e. some (ap length e))

pub loop-frames-preserved : goal.loop-frames-preserved
loop-frames-preserved c =
    stretch_passed _ _ _ _ _ (others_more _ _ _ _ _ _ c.loop-frames.invariant c.in-Ok.ensures.accepted) c.behind_canonical_pods-left.ensures.stretch

pub loop-frames-smaller : goal.loop-frames-smaller
loop-frames-smaller c =
    let a = c.in-Ok.ensures.accepted in
    let less = fewer_left _ _ _ a.begins in
    let s = c.behind_canonical_pods-left.ensures.stretch in
    let l = ap length s.1 ∙ length-append s.0 c.behind_canonical_pods-left.result.now in
    omega arith

pub returns-clause-accepted : goal.returns-clause-accepted
returns-clause-accepted c = all_changed _ _ _ _ c.loop-frames.invariant (eqb-true _ _ (sym c.is_empty.ensures ∙ c.loop-frames-test.false))
