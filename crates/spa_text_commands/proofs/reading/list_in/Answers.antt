use Rattle.std.proofs.Common.{ap, ◌∙◌, sym}
use Rattle.spa_value.specs.View.{view}
use Rattle.spa_value.specs.Views.{views}
use Rattle.spa_value.proofs.ViewLaws.{view-struct}
use Rattle.spa_text_commands.specs.Texts.{items_or_one}
use Rattle.spa_text_commands.proofs.Items.{one_pod}
use Rattle.spa_text_commands.proofs.reading.list_in.Goals as goal

pub returns-in-Struct : goal.returns-in-Struct
returns-in-Struct c =
    ap items_or_one (ap view c.in-Struct.is ∙ view-struct c.in-Struct.members) ∙ ap views (sym c.as_slice.ensures.value)

pub returns-in_default : goal.returns-in_default
returns-in_default c = one_pod c.args.value.now c.in_default.not-Struct
