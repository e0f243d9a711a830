use Rattle.std.proofs.Common.{◌+◌, ◌*◌}
use Rattle.spa_format.specs.Tree.{member_node_count, node_count, property_node_count}
use Rattle.spa_value.specs.View.{view}
use Rattle.spa_value.specs.Views.{property_views, views}
use Rattle.spa_write.proofs.count.+few.Given as goal

-- the values that are counted
abbrev pub decreases-few_left : goal.decreases-few_left
decreases-few_left l = 2 * node_count (view l.value.now)

abbrev pub decreases-few_left_of_members : goal.decreases-few_left_of_members
decreases-few_left_of_members l = 2 * member_node_count (views l.members.now) + 1

abbrev pub decreases-few_left_of_properties : goal.decreases-few_left_of_properties
decreases-few_left_of_properties l = 2 * property_node_count (property_views l.properties.now) + 1
