use Rattle.std.proofs.Common.{◌-◌, length}
use Rattle.spa_recordings.proofs.Likely.{SeeksSoFar}
use Rattle.spa_recordings.proofs.plausible.next_plausible.Given as goal

abbrev pub invariant-loop-at : goal.invariant-loop-at
invariant-loop-at l = SeeksSoFar l.input l.from l.at

abbrev pub decreases-loop-at : goal.decreases-loop-at
decreases-loop-at l = length l.input - l.at
