use Rattle.std.proofs.Common.{rules}
use Rattle.std.proofs.lemmas.Result.{on_ok_weaker}
use Rattle.spa_text.proofs.Leaf.{rectangle_printed}
use Rattle.spa_text.proofs.printed.RectanglePrinted.print.Goals as goal

pub returns : goal.returns
returns c =
    on_ok_weaker c.print_two.result (rectangle_printed c.args._expected c.args.self.width c.args.self.height _ _ (search rules) (search rules))
    c.print_two.ensures
