use Rattle.std.proofs.Common.{◌∷◌, ap, ◌∙◌, sym, drop}
use Rattle.std.proofs.lemmas.List.{take_rest}
use Rattle.spa_format.specs.Front.{rest_of}
use Rattle.spa_format.specs.Walk.{walk}
use Rattle.spa_format.proofs.WalkLemmas.{walk-end, walk-there}
use Rattle.spa_pod_commands.specs.Lines.{level_pods}
use Rattle.spa_pod_commands.proofs.Levels.{when_none}
use Rattle.spa_pod_commands.proofs.listing.Level.next.Goals as goal

pub returns-in_err-pod-in-Pods-clause-end : goal.returns-in_err-pod-in-Pods-clause-end
returns-in_err-pod-in-Pods-clause-end c =
    when_none c.from_residual.result (ap level_pods c.in-Pods.is ∙ walk-end c.in-Pods.left.now c.in_err-pod-in-Pods.ensures.none)

pub returns-in_ok-pod-in-Pods-clause-next : goal.returns-in_ok-pod-in-Pods-clause-next
returns-in_ok-pod-in-Pods-clause-next c =
    let left = c.in-Pods.left.now in
    let p = c.in_ok-pod-in-Pods.pod.bytes.now in
    let n = c.in_ok-pod-in-Pods.extent in
    ap level_pods c.in-Pods.is
    ∙ walk-there left c.in_ok-pod-in-Pods.ensures.there
    ∙ ap (λ z. z ∷ walk (rest_of left)) (sym c.in_ok-pod-in-Pods.ensures.front)
    ∙ ap (λ m. p ∷ walk (drop m left)) (sym c.in_ok-pod-in-Pods.ensures.extent)
    ∙ ap (λ z. p ∷ walk z) (sym (take_rest left n))
