use Rattle.spa_text_commands.specs.Lines.{Adds}
use Rattle.spa_text_commands.proofs.listing.Listing.add_pod.Given as goal

abbrev pub invariant-loop : goal.invariant-loop
invariant-loop l = Adds l.fn.page.lines.items l.page.lines.items
