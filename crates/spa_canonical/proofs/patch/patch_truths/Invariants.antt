use Rattle.std.proofs.Common.{◌-◌, length}
use Rattle.spa_canonical.proofs.Truths.{AreTurned}
use Rattle.spa_canonical.proofs.patch.patch_truths.Given as goal

abbrev pub invariant-loop-at : goal.invariant-loop-at
invariant-loop-at l = AreTurned l.initial.words l.words l.at

abbrev pub decreases-loop-at : goal.decreases-loop-at
decreases-loop-at l = length l.words - l.at
