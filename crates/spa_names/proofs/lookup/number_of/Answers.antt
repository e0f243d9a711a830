use Rattle.std.proofs.Common.{sym}
use Rattle.spa_names.proofs.Found.{named_there}
use Rattle.spa_names.proofs.lookup.number_of.Goals as goal

pub returns-then-has_name : goal.returns-then-has_name
returns-then-has_name c =
    let at = c.in-Some.ensures.lookup.3 in
    named_there c.args.table c.args.name.now _ c.entries_of-entries.ensures _ c.in-Some.entry.now at.0 at.1 (sym c.if-has_name.ensures)
