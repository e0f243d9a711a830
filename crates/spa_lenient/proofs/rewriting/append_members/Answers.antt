use Rattle.std.proofs.Common.{sym}
use Rattle.std.proofs.lemmas.Bool.{eqb-true}
use Rattle.spa_lenient.proofs.Lists.{at_start, to_end, with_first, with_front}
use Rattle.spa_lenient.proofs.rewriting.append_members.Goals as goal

pub loop-pod-init : goal.loop-pod-init
loop-pod-init c = at_start _ _

pub returns-then-is_empty-clause-appended : goal.returns-then-is_empty-clause-appended
returns-then-is_empty-clause-appended c = λ _.
    to_end _ _ _ _ (with_first _ _ _ _ _ _ c.loop-pod.invariant c.in-Ok.ensures.appended) (eqb-true _ _ (sym c.if-is_empty.ensures))

pub loop-pod-preserved : goal.loop-pod-preserved
loop-pod-preserved c =
    with_front _ _ _ _ _ _ (with_first _ _ _ _ _ _ c.loop-pod.invariant c.in-Ok.ensures.appended) c.in-Ok-append_by_value.ensures.appended
