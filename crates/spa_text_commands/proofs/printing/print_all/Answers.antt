use Rattle.std.proofs.Common.{[]}
use Rattle.spa_text_commands.specs.Texts.{IsTextAt}
use Rattle.spa_text_commands.proofs.PrintedPods.{printed_all}
use Rattle.spa_text_commands.proofs.printing.print_all.Goals as goal

pub returns-clause-printed : goal.returns-clause-printed
returns-clause-printed c = printed_all (IsTextAt c.args.layout []) _ _ _ c.in_ok-add_texts.ensures.added c.new-lines.ensures.items
