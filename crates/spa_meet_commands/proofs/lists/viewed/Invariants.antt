use Rattle.std.proofs.Common.{length}
use Rattle.spa_meet_commands.proofs.Seeking.{Passed}
use Rattle.spa_meet_commands.proofs.lists.viewed.Given as goal

abbrev pub invariant-loop-left : goal.invariant-loop-left
invariant-loop-left l = Passed l.bytes l.left l.objects.items

abbrev pub decreases-loop-left : goal.decreases-loop-left
decreases-loop-left l = length l.left
