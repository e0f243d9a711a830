use Rattle.std.proofs.Common.{length}
use Rattle.spa_text_commands.proofs.ReadHexadecimal.{SaidSoFar}
use Rattle.spa_text_commands.proofs.hexadecimal.add_bytes.Given as goal

abbrev pub invariant-loop-first : goal.invariant-loop-first
invariant-loop-first l = SaidSoFar l.spaces_end l.row l.left l.fn.bytes.items l.bytes.items

abbrev pub decreases-loop-first : goal.decreases-loop-first
decreases-loop-first l = length l.left
