use Rattle.std.proofs.Common.{◌≡◌, ◌≤◌, length}
use Rattle.spa_format.specs.Tree.{property_node_count}
use Rattle.spa_value.specs.Equality.{properties_eq}
use Rattle.spa_value.specs.Views.{property_views}
use Rattle.spa_value.proofs.comparison.properties_step.Given as goal

abbrev pub invariant-loop-property : goal.invariant-loop-property
invariant-loop-property l =
    (properties_eq (property_views l.left) (property_views l.others_left) ≡ properties_eq (property_views l.properties) (property_views l.others)) × (property_node_count (property_views l.left) ≤ property_node_count (property_views l.properties))

abbrev pub decreases-loop-property : goal.decreases-loop-property
decreases-loop-property l = length l.left
