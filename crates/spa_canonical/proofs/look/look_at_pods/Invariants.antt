use Rattle.std.proofs.Common.{length}
use Rattle.spa_canonical.proofs.Changed.{ChangesUpTo}
use Rattle.spa_canonical.proofs.look.look_at_pods.Given as goal

abbrev pub invariant-loop-frames : goal.invariant-loop-frames
invariant-loop-frames l = ChangesUpTo l.pods l.left l.changed l.surplus

abbrev pub decreases-loop-frames : goal.decreases-loop-frames
decreases-loop-frames l = length l.left
