use Rattle.spa_text.proofs.Leaf.{id_printed}
use Rattle.std.proofs.lemmas.Result.{on_ok_weaker}
use Rattle.spa_text.proofs.printed.IdPrinted.print.Goals as goal

pub returns : goal.returns
returns c =
    on_ok_weaker c.end_braced.result
    (id_printed c.args.expected c.in_ok-braced.braced c.args.self.0 _ _ _ _ c.in_ok-braced.ensures c.in_ok-print_name.ensures)
    c.end_braced.ensures
