use Rattle.std.proofs.Common.{◌≡◌, ◌++◌}
use Rattle.spa_text_commands.specs.Dump.{blanks}
use Rattle.spa_text_commands.proofs.dump.add_blanks.Given as goal

abbrev pub invariant-loop-left : goal.invariant-loop-left
invariant-loop-left l = l.lines.items ++ blanks l.left ≡ l.fn.lines.items ++ blanks l.missing

abbrev pub decreases-loop-left : goal.decreases-loop-left
decreases-loop-left l = l.left
