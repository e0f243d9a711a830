use Rattle.std.proofs.Common.{◌+◌, ◌-◌, length}
use Rattle.spa_format.specs.Walk.{walk}
use Rattle.spa_text_commands.specs.Selection.{selected}
use Rattle.spa_text_commands.proofs.Saying.{Passed, SoFar}
use Rattle.spa_text_commands.proofs.showing.list_all.Given as goal

abbrev pub invariant-loop-pod : goal.invariant-loop-pod
invariant-loop-pod l =
    SoFar l.printout.form (selected l.printout.selection l.count l.place (walk l.bytes))
    (selected l.printout.selection l.before (l.place + (length l.bytes - length l.left)) (walk l.left)) l.fn.page.lines.items l.page.lines.items l.refused
    × Passed l.count l.bytes l.left l.before l.refused

abbrev pub decreases-loop-pod : goal.decreases-loop-pod
decreases-loop-pod l = length l.left
