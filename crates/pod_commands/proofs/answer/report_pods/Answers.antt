use Rattle.std.proofs.Common.{◌∷◌, ◌∙◌, ◌+◌, ap, drop, sym}
use Rattle.std.proofs.lemmas.List.{drop_more}
use Rattle.pod_commands.proofs.Listed.{begins, further}
use Rattle.pod_commands.proofs.answer.report_pods.Goals as goal

pub loop-pod-init : goal.loop-pod-init
loop-pod-init g c = begins _ _

pub loop-pod-preserved : goal.loop-pod-preserved
loop-pod-preserved g c =
    let pods = c.args.pods.now in
    let i = c.loop-pod.pod-index in
    let next = drop_more pods i c.pod-item.result c.loop-pod-test.true ∙ ap (λ z. z ∷ drop (i + 1) pods) (sym c.pod-item.is) in
    further _ _ _ _ _ _ _ next c.in_ok-report_pod.ensures.written c.loop-pod.invariant
