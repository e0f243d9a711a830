use Rattle.std.proofs.Common.{◌∙◌, ap, sym}
use Rattle.spa_value.proofs.ViewLaws.{view-struct}
use Rattle.spa_value.specs.View.{view}
use Rattle.spa_value.specs.Views.{views}
use Rattle.spa_text_commands.specs.Messages.{head_in, message_in}
use Rattle.spa_text_commands.proofs.Heads.{no_message, no_struct, struct_head}
use Rattle.spa_text_commands.proofs.message.head_of_value.Goals as goal

pub returns-in-Struct : goal.returns-in-Struct
returns-in-Struct c =
    struct_head c.head_of_members.result (views c.in-Struct.members.items)
    (c.head_of_members.ensures ∙ ap (λ l. message_in (views l)) c.as_slice.ensures.value)
    ∙ sym (ap head_in (ap view c.in-Struct.is ∙ view-struct c.in-Struct.members))

pub returns-in_default : goal.returns-in_default
returns-in_default c = sym (no_message _ (no_struct c.args.value.now c.in_default.not-Struct)).0
