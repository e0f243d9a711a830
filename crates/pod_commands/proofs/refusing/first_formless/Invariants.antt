use Rattle.std.proofs.Common.{length}
use Rattle.spa_recordings.proofs.Holding.{WholeSoFar}
use Rattle.pod_commands.proofs.refusing.first_formless.Given as goal

abbrev pub invariant-loop-front : goal.invariant-loop-front
invariant-loop-front l = WholeSoFar l.input l.left l.before

abbrev pub decreases-loop-front : goal.decreases-loop-front
decreases-loop-front l = length l.left
