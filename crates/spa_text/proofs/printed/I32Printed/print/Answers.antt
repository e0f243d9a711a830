use Rattle.spa_text.proofs.Leaf.{int_printed}
use Rattle.std.proofs.lemmas.Result.{on_ok_weaker}
use Rattle.spa_text.proofs.printed.I32Printed.print.Goals as goal

pub returns : goal.returns
returns c =
    on_ok_weaker c.end_braced.result
    (int_printed c.args.expected c.in_ok-braced.braced c.args.self _ _ _ _ c.ranges.self c.in_ok-braced.ensures c.in_ok-i64.ensures.ok)
    c.end_braced.ensures
