use Rattle.std.proofs.Common.{rules}
use Rattle.std.proofs.lemmas.Result.{on_ok_weaker}
use Rattle.spa_text.proofs.Leaf.{fd_printed}
use Rattle.spa_text.proofs.printed.FdPrinted.print.Goals as goal

pub returns : goal.returns
returns c =
    on_ok_weaker c.end_braced.result
    (fd_printed c.args.expected c.in_ok-braced.braced c.args.self.0 _ _ _ _ (search rules) c.in_ok-braced.ensures c.in_ok-i64.ensures.ok)
    c.end_braced.ensures
