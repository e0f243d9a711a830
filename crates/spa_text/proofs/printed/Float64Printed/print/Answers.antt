use Rattle.spa_text.proofs.Leaf.{double_printed}
use Rattle.std.proofs.lemmas.Result.{on_ok_weaker}
use Rattle.spa_text.proofs.printed.Float64Printed.print.Goals as goal

pub returns : goal.returns
returns c =
    on_ok_weaker c.end_braced.result
    (double_printed c.args.expected c.in_ok-braced.braced c.args.self.0 _ _ _ _ c.in_ok-braced.ensures c.in_ok-print_double.ensures)
    c.end_braced.ensures
