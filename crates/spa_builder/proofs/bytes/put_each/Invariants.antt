use Rattle.std.proofs.Common.{length}
use Rattle.spa_fixed_sized.specs.Reading.{AreWhole}
use Rattle.spa_builder.specs.Framed.{IsGrown}
use Rattle.spa_builder.proofs.Bodies.{ArePutBefore}
use Rattle.spa_builder.proofs.bytes.put_each.Given as goal

abbrev pub invariant-loop-left : goal.invariant-loop-left
invariant-loop-left g l =
    AreWhole g.T.CanonicalFixedSizedPod.SIZE l.left
    × ArePutBefore g.T.CanonicalFixedSizedPod.kind l.bodies l.left l.initial.bytes l.bytes
    × IsGrown l.initial.bytes l.bytes

abbrev pub decreases-loop-left : goal.decreases-loop-left
decreases-loop-left g l = length l.left
