use Rattle.std.proofs.Common.{length}
use Rattle.spa_text_commands.proofs.ReadTexts.{ReadSoFar}
use Rattle.spa_text_commands.proofs.reading.read_all.Given as goal

abbrev pub invariant-loop-left : goal.invariant-loop-left
invariant-loop-left l = ReadSoFar l.form l.bytes l.left l.pods.items

abbrev pub decreases-loop-left : goal.decreases-loop-left
decreases-loop-left l = length l.left
