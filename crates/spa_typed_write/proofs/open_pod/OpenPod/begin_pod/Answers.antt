use Rattle.std.proofs.Common.{Some, ap}
use Rattle.spa_typed_write.proofs.OpenPods.{begun_at, begun_is}
use Rattle.spa_typed_write.proofs.open_pod.OpenPod.begin_pod.Goals as goal

pub invariant_of-result : goal.invariant_of-result
invariant_of-result g c =
    rw c.in_ok-start.ensures.start
    (begun_is c.args.type_ _ _ (g.met.O.PodOutput.content_appends _ _ _ c.in_ok-start.ensures.header))

pub returns-clause-begun : goal.returns-clause-begun
returns-clause-begun g c =
    rw c.in_ok-start.ensures.start
    (ap Some (begun_at c.args.type_ _ _ (g.met.O.PodOutput.content_appends _ _ _ c.in_ok-start.ensures.header)))
