use Rattle.spa_text.proofs.Leaf.{bool_printed}
use Rattle.std.proofs.lemmas.Result.{on_ok_weaker}
use Rattle.spa_text.proofs.printed.BoolPrinted.print.Goals as goal

pub returns : goal.returns
returns c = on_ok_weaker c.boolean.result (bool_printed c.args._expected c.args.self _ _) c.boolean.ensures.ok
