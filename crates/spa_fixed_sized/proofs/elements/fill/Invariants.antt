use Rattle.spa_fixed_sized.proofs.ElementWriting.{IsFilled}
use Rattle.spa_fixed_sized.proofs.elements.fill.Given as goal

abbrev pub invariant-loop-value : goal.invariant-loop-value
invariant-loop-value g l =
    IsFilled g.T.CanonicalFixedSizedPod.kind g.T.CanonicalFixedSizedPod.fixed
    g.T.CanonicalFixedSizedPod.SIZE l.at l.value-index l.block l.values
