use Rattle.std.proofs.Common.{◌≤◌, length}
use Rattle.spa_format.specs.Tree.{property_node_count}
use Rattle.spa_value.specs.Views.{property_views}
use Rattle.spa_print.proofs.left.print_properties.Given as goal

abbrev pub invariant-loop-property : goal.invariant-loop-property
invariant-loop-property o l = property_node_count (property_views l.left) ≤ property_node_count (property_views l.properties)

abbrev pub decreases-loop-property : goal.decreases-loop-property
decreases-loop-property o l = length l.left
