use Rattle.std.proofs.Common.{length}
use Rattle.spa_fixed_sized.proofs.ElementWriting.{IsSent}
use Rattle.spa_fixed_sized.proofs.elements.put_elements.Given as goal

abbrev pub invariant-loop-left : goal.invariant-loop-left
invariant-loop-left g l =
    IsSent g.S.PodSink.appends g.T.CanonicalFixedSizedPod.kind g.T.CanonicalFixedSizedPod.fixed
    l.initial.sink l.sink l.values l.left

abbrev pub decreases-loop-left : goal.decreases-loop-left
decreases-loop-left g l = length l.left
