use Rattle.std.proofs.Common.{length}
use Rattle.spa_text_commands.proofs.ReadHexadecimal.{LinesSoFar}
use Rattle.spa_text_commands.proofs.hexadecimal.read_hexadecimal.Given as goal

abbrev pub invariant-loop-left : goal.invariant-loop-left
invariant-loop-left l = LinesSoFar l.input l.left l.bytes.items l.lines

abbrev pub decreases-loop-left : goal.decreases-loop-left
decreases-loop-left l = length l.left
