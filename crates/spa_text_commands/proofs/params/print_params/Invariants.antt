use Rattle.std.proofs.Common.{[], length}
use Rattle.spa_text_commands.specs.Params.{IsParam}
use Rattle.spa_text_commands.proofs.PrintedPods.{PrintedSoFar}
use Rattle.spa_text_commands.proofs.params.print_params.Given as goal

abbrev pub invariant-loop-left : goal.invariant-loop-left
invariant-loop-left l = PrintedSoFar IsParam l.pods l.left [] l.lines.items

abbrev pub decreases-loop-left : goal.decreases-loop-left
decreases-loop-left l = length l.left
