use Rattle.spa_text.proofs.Listed.{next_listed}
use Rattle.spa_text.proofs.leaves.print_elements.Goals as goal

pub loop-value-preserved : goal.loop-value-preserved
loop-value-preserved g c =
    let pod = g.T.CanonicalFixedSizedPod in
    next_listed c.args.expected pod.kind pod.fixed c.args.values.now c.loop-value.value-index c.value-item.result _ _ _ c.loop-value-test.true
    c.value-item.is c.loop-value.invariant c.in_ok-print_element.ensures
