use Rattle.spa_text.proofs.Leaf.{float_printed}
use Rattle.std.proofs.lemmas.Result.{on_ok_weaker}
use Rattle.spa_text.proofs.printed.Float32Printed.print.Goals as goal

pub returns : goal.returns
returns c =
    on_ok_weaker c.end_braced.result
    (float_printed c.args.expected c.in_ok-braced.braced c.args.self.0 _ _ _ _ c.in_ok-braced.ensures c.in_ok-print_float.ensures)
    c.end_braced.ensures
