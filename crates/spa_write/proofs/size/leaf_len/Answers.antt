use Rattle.std.proofs.Common.{ap, ◌∙◌, subst}
use Rattle.spa_value.specs.View.{view}
use Rattle.spa_value.proofs.ViewLaws.{view-fields}
use Rattle.spa_bodies.specs.Written.{IsLeaf}
use Rattle.spa_write.proofs.size.leaf_len.Goals as goal

pub unreachable-requires-in-Object : goal.unreachable-requires-in-Object
unreachable-requires-in-Object c =
    subst IsLeaf (ap view c.in-Object.is ∙ view-fields c.in-Object.field-0) c.requires
