use Rattle.std.proofs.Common.{◌≡◌, ◌++◌, length, map}
use Rattle.spa_text_commands.specs.Dump.{letter_of}
use Rattle.spa_text_commands.proofs.dump.add_letters.Given as goal

abbrev pub invariant-loop-byte : goal.invariant-loop-byte
invariant-loop-byte l = l.lines.items ++ map letter_of l.left ≡ l.fn.lines.items ++ map letter_of l.bytes

abbrev pub decreases-loop-byte : goal.decreases-loop-byte
decreases-loop-byte l = length l.left
