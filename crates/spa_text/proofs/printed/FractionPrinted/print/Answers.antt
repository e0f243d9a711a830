use Rattle.std.proofs.Common.{rules}
use Rattle.std.proofs.lemmas.Result.{on_ok_weaker}
use Rattle.spa_text.proofs.Leaf.{fraction_printed}
use Rattle.spa_text.proofs.printed.FractionPrinted.print.Goals as goal

pub returns : goal.returns
returns c =
    on_ok_weaker c.print_two.result (fraction_printed c.args._expected c.args.self.num c.args.self.denom _ _ (search rules) (search rules))
    c.print_two.ensures
