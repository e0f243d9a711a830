use Rattle.std.proofs.Common.{◌∙◌, ap, sym}
use Rattle.spa_format.specs.Tree.{struct}
use Rattle.spa_value.proofs.ViewLaws.{view-struct}
use Rattle.spa_value.specs.View.{view}
use Rattle.spa_text_commands.specs.Messages.{across_runs}
use Rattle.spa_text_commands.proofs.Heads.{no_message, no_struct}
use Rattle.spa_text_commands.proofs.message.across_runs.Goals as goal

pub returns-in-Struct : goal.returns-in-Struct
returns-in-Struct c =
    view-struct c.members_across_runs.result ∙ ap struct c.members_across_runs.ensures
    ∙ sym (ap across_runs (ap view c.in-Struct.is ∙ view-struct c.in-Struct.members))

pub returns-in_default : goal.returns-in_default
returns-in_default c = sym (no_message _ (no_struct c.args.value c.in_default.not-Struct)).1
