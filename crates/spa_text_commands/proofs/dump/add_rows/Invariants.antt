use Rattle.std.proofs.Common.{◌≡◌, ◌+◌, ◌++◌, length}
use Rattle.spa_text_commands.specs.Dump.{hex_lines}
use Rattle.spa_text_commands.proofs.dump.add_rows.Given as goal

abbrev pub invariant-loop-left : goal.invariant-loop-left
invariant-loop-left l =
    (l.lines.items ++ hex_lines l.at l.left ≡ l.fn.lines.items ++ hex_lines l.place l.bytes) × (l.at + length l.left ≡ l.place + length l.bytes)

abbrev pub decreases-loop-left : goal.decreases-loop-left
decreases-loop-left l = length l.left
