use Rattle.std.proofs.Common.{sym, ap, ◌∙◌}
use Rattle.spa_value.specs.NestedCopies.{so_far}
use Rattle.spa_value.proofs.ViewLaws.{view-struct}
use Rattle.spa_value.proofs.nested_copies.Copying.into_value.Goals as goal

pub returns-in-Struct : goal.returns-in-Struct
returns-in-Struct c = view-struct c.in-Struct.it.copies ∙ ap so_far (sym c.in-Struct.is)

pub returns-in-Object : goal.returns-in-Object
returns-in-Object c = c.into_object.ensures ∙ ap so_far (sym c.in-Object.is)
