use Rattle.std.proofs.Common.{length}
use Rattle.spa_device.proofs.Taking.{Continues}
use Rattle.spa_device.proofs.device.hand_over.Given as goal

abbrev pub invariant-loop-left : goal.invariant-loop-left
invariant-loop-left g l = Continues g.D.Attempts.attempts l.fn.device l.fn.bytes l.device l.left l.done

abbrev pub decreases-loop-left : goal.decreases-loop-left
decreases-loop-left g l = length l.left
