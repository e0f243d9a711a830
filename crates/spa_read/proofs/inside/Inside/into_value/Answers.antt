use Rattle.std.proofs.Common.{sym, ap, ◌∙◌}
use Rattle.spa_read.specs.Nesting.{so_far}
use Rattle.spa_value.proofs.ViewLaws.{view-object, view-struct}
use Rattle.spa_read.proofs.inside.Inside.into_value.Goals as goal

pub returns-in-Struct : goal.returns-in-Struct
returns-in-Struct c = view-struct c.in-Struct.members ∙ ap so_far (sym c.in-Struct.is)

pub returns-in-Object : goal.returns-in-Object
returns-in-Object c =
    let o = c.in-Object.object in
    view-object o.type_ o.id o.properties ∙ ap so_far (sym c.in-Object.is)
