use Rattle.std.proofs.Common.{refl, sym, ap, ◌∙◌}
use Rattle.spa_value.specs.View.{view}
use Rattle.spa_value.proofs.ViewLaws.{view-struct}
use Rattle.spa_value.proofs.leaves.copy_leaf.Goals as goal

pub returns-in-Struct : goal.returns-in-Struct
returns-in-Struct g c = (refl, sym (ap view c.in-Struct.is ∙ view-struct c.in-Struct.members))
