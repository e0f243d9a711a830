use Rattle.spa_text_commands.proofs.PrintedParams.{value_last}
use Rattle.spa_text_commands.proofs.params.last_value.Goals as goal

pub returns : goal.returns
returns c = value_last c.in-Some.field-0-1.now c.in-Some.last.now c.args.members.now c.in-Some.ensures.cases.0 c.requires
