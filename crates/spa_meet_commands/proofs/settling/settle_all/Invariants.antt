use Rattle.std.proofs.Common.{length}
use Rattle.spa_meet_commands.proofs.Settled.{SettledSoFar}
use Rattle.spa_meet_commands.proofs.settling.settle_all.Given as goal

abbrev pub invariant-loop-left : goal.invariant-loop-left
invariant-loop-left l = SettledSoFar l.pods l.left l.out.items

abbrev pub decreases-loop-left : goal.decreases-loop-left
decreases-loop-left l = length l.left
