use Rattle.std.proofs.Common.{length}
use Rattle.pod_commands.proofs.Coloured.{ColouredSoFar}
use Rattle.pod_commands.proofs.colours.coloured.Given as goal

abbrev pub invariant-loop-left : goal.invariant-loop-left
invariant-loop-left l = ColouredSoFar l.text l.left l.out.items

abbrev pub decreases-loop-left : goal.decreases-loop-left
decreases-loop-left l = length l.left
