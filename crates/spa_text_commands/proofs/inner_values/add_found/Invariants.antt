use Rattle.spa_text_commands.proofs.Values.{FoundSoFar}
use Rattle.spa_text_commands.proofs.inner_values.add_found.Given as goal

abbrev pub invariant-loop-number : goal.invariant-loop-number
invariant-loop-number l =
    FoundSoFar l.printout.form l.printout.selection l.count l.place l.searched.bytes.now l.searched.events.now l.number l.fn.page.lines.items
    l.page.lines.items l.refused
