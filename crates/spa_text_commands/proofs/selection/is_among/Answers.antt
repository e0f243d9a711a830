use Rattle.std.proofs.Common.{arith, rules, tests}
use Rattle.std.proofs.lemmas.Iterator.Search.{any_from_yields_List}
use Rattle.std.proofs.lemmas.Iterator.Splits.{YieldsList-from_str_split}
use Rattle.spa_text_commands.specs.Selection.{is_named}
use Rattle.spa_text_commands.proofs.selection.is_among.Goals as goal

pub returns : goal.returns
returns c =
    let split = c.split.ensures in
    any_from_yields_List (is_named c.args.table c.args.number) _ _ _ c.any.ensures.ran
    (YieldsList-from_str_split 44 c.args.names.now (omega arith) split.text split.has_more split.pattern) (λ x b q k. search (rules, tests))
