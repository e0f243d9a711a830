use Rattle.std.proofs.Common.{◌-◌, ◌<◌, length}
use Rattle.spa_rewrite.proofs.deep.accept_deep.Given as goal

abbrev pub invariant-loop-frames : goal.invariant-loop-frames
invariant-loop-frames l = 0 < l.room

abbrev pub decreases-loop-frames : goal.decreases-loop-frames
decreases-loop-frames l = length l.input - l.room
