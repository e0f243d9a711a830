use Rattle.std.proofs.Common.{◌≤◌, length}
use Rattle.spa_format.specs.Tree.{member_node_count}
use Rattle.spa_value.specs.Views.{views}
use Rattle.spa_print.proofs.left.print_members.Given as goal

abbrev pub invariant-loop-member : goal.invariant-loop-member
invariant-loop-member o l = member_node_count (views l.left) ≤ member_node_count (views l.members)

abbrev pub decreases-loop-member : goal.decreases-loop-member
decreases-loop-member o l = length l.left
