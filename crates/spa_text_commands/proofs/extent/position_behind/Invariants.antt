use Rattle.std.proofs.Common.{length}
use Rattle.spa_text_commands.proofs.Extents.{Placed}
use Rattle.spa_text_commands.proofs.extent.position_behind.Given as goal

abbrev pub invariant-loop-byte : goal.invariant-loop-byte
invariant-loop-byte l = Placed l.bytes l.left l.first l.line l.column

abbrev pub decreases-loop-byte : goal.decreases-loop-byte
decreases-loop-byte l = length l.left
