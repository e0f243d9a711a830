use Rattle.spa_text.proofs.Leaf.{long_printed}
use Rattle.std.proofs.lemmas.Result.{on_ok_weaker}
use Rattle.spa_text.proofs.printed.I64Printed.print.Goals as goal

pub returns : goal.returns
returns c =
    on_ok_weaker c.end_braced.result
    (long_printed c.args.expected c.in_ok-braced.braced c.args.self _ _ _ _ c.ranges.self c.in_ok-braced.ensures c.in_ok-i64.ensures.ok)
    c.end_braced.ensures
