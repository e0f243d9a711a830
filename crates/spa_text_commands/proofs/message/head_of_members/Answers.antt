use Rattle.std.proofs.Common.{sym}
use Rattle.spa_text_commands.proofs.Heads.{few_members}
use Rattle.spa_text_commands.proofs.message.head_of_members.Goals as goal

pub returns-in_default : goal.returns-in_default
returns-in_default c = sym (few_members c.args.members.now c.in_default.len_below)
