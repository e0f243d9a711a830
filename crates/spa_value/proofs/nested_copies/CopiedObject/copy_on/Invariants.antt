use Rattle.std.proofs.Common.{◌≡◌, ◌≤◌, ◌++◌, length}
use Rattle.spa_format.specs.Tree.{object, property_node_count}
use Rattle.spa_value.specs.Views.{property_views}
use Rattle.spa_value.specs.NestedCopies.{whole}
use Rattle.spa_value.specs.declared.nested_copies.Copying.TheVariants as copying
use Rattle.spa_value.proofs.nested_copies.CopiedObject.copy_on.Given as goal

abbrev pub invariant-loop-property : goal.invariant-loop-property
invariant-loop-property l =
    (object l.self.type_ l.self.id (property_views (l.self.copies.items ++ l.left)) ≡ whole (copying.Object l.fn.self)) × (property_node_count (property_views l.left) ≤ property_node_count (property_views l.fn.self.left.now))

abbrev pub decreases-loop-property : goal.decreases-loop-property
decreases-loop-property l = length l.left
