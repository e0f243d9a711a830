use Rattle.spa_text.proofs.Leaf.{none_printed}
use Rattle.std.proofs.lemmas.Result.{on_ok_weaker}
use Rattle.spa_text.proofs.printed.UnitPrinted.print.Goals as goal

pub returns : goal.returns
returns c = on_ok_weaker c.null.result (none_printed c.args._expected _ _) c.null.ensures.ok
