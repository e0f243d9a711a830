use Rattle.std.proofs.Common.{length}
use Rattle.spa_text_commands.specs.Texts.{IsTextAt}
use Rattle.spa_text_commands.proofs.PrintedPods.{PrintedSoFar}
use Rattle.spa_text_commands.proofs.printing.add_texts.Given as goal

abbrev pub invariant-loop-left : goal.invariant-loop-left
invariant-loop-left l = PrintedSoFar (IsTextAt l.layout l.position.path.now) l.pods l.left l.fn.lines.items l.lines.items

abbrev pub decreases-loop-left : goal.decreases-loop-left
decreases-loop-left l = length l.left
