use Rattle.std.proofs.Common.{◌≡◌, ◌+◌, ◌*◌, ◌≤◌, take}
use Rattle.spa_format.specs.Tree.{member_node_count, node_count, property_node_count}
use Rattle.spa_value.specs.View.{view}
use Rattle.spa_value.specs.Views.{property_views, views}
use Rattle.spa_write.proofs.count.+count.Given as goal

-- the values that are counted
abbrev pub decreases-left_of : goal.decreases-left_of
decreases-left_of l = 3 * node_count (view l.value.now)

abbrev pub decreases-left_of_members : goal.decreases-left_of_members
decreases-left_of_members l = 3 * member_node_count (views l.members.now) + 2

abbrev pub decreases-left_of_all : goal.decreases-left_of_all
decreases-left_of_all l = 3 * member_node_count (views l.members.now) + 1

abbrev pub decreases-left_of_properties : goal.decreases-left_of_properties
decreases-left_of_properties l = 3 * property_node_count (property_views l.properties.now) + 1

abbrev pub invariant-left_of_members-loop-lone : goal.invariant-left_of_members-loop-lone
invariant-left_of_members-loop-lone l =
    (l.number + member_node_count (views l.inner) ≡ l.left + member_node_count (views l.members))
    × (member_node_count (views l.inner) ≤ member_node_count (views l.members))

abbrev pub decreases-left_of_members-loop-lone : goal.decreases-left_of_members-loop-lone
decreases-left_of_members-loop-lone l = member_node_count (views l.inner)

abbrev pub invariant-left_of_all-loop-member : goal.invariant-left_of_all-loop-member
invariant-left_of_all-loop-member l = l.number ≡ l.left + member_node_count (views (take l.member-index l.members))

abbrev pub invariant-left_of_properties-loop-property :
    goal.invariant-left_of_properties-loop-property
invariant-left_of_properties-loop-property l = l.number ≡ l.left + property_node_count (property_views (take l.property-index l.properties))
