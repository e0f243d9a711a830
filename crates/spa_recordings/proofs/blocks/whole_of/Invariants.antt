use Rattle.std.proofs.Common.{length}
use Rattle.spa_recordings.proofs.Holding.{WholeSoFar}
use Rattle.spa_recordings.proofs.blocks.whole_of.Given as goal

abbrev pub invariant-loop-front : goal.invariant-loop-front
invariant-loop-front l = WholeSoFar l.bytes l.left l.count

abbrev pub decreases-loop-front : goal.decreases-loop-front
decreases-loop-front l = length l.left
