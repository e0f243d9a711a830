use Rattle.std.proofs.Common.{◌≡◌, ◌++◌, length}
use Rattle.spa_text_commands.specs.Dump.{spaced}
use Rattle.spa_text_commands.proofs.dump.add_spaced.Given as goal

abbrev pub invariant-loop-byte : goal.invariant-loop-byte
invariant-loop-byte l = l.lines.items ++ spaced l.left ≡ l.fn.lines.items ++ spaced l.bytes

abbrev pub decreases-loop-byte : goal.decreases-loop-byte
decreases-loop-byte l = length l.left
