use Rattle.std.proofs.Common.{◌∙◌, ap, sym}
use Rattle.spa_value.proofs.ViewLaws.{view-fields}
use Rattle.spa_value.specs.View.{view}
use Rattle.spa_text_commands.specs.Params.{form_of}
use Rattle.spa_text_commands.proofs.params.form_of.Goals as goal

pub returns-in-Object : goal.returns-in-Object
returns-in-Object c = sym (ap form_of (ap view c.in-Object.is ∙ view-fields c.in-Object.object))
