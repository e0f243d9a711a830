use Rattle.spa_fixed_sized.proofs.ElementWriting.{IsFilled}
use Rattle.spa_fixed_sized.proofs.choice.first_bodies.Given as goal

abbrev pub invariant-loop-value : goal.invariant-loop-value
invariant-loop-value g l =
    IsFilled g.T.CanonicalFixedSizedPod.kind (λ x. g.T.CanonicalFixedSizedPod.fixed x.now)
    g.T.CanonicalFixedSizedPod.SIZE l.at l.value-index l.bodies l.values
