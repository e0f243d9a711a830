use Rattle.std.proofs.Common.{◌≡◌, ◌≤◌, length}
use Rattle.spa_format.specs.Tree.{member_node_count}
use Rattle.spa_value.specs.Equality.{members_eq}
use Rattle.spa_value.specs.Views.{views}
use Rattle.spa_value.proofs.comparison.members_step.Given as goal

abbrev pub invariant-loop-member : goal.invariant-loop-member
invariant-loop-member l =
    (members_eq (views l.left) (views l.others_left) ≡ members_eq (views l.members) (views l.others)) × (member_node_count (views l.left) ≤ member_node_count (views l.members))

abbrev pub decreases-loop-member : goal.decreases-loop-member
decreases-loop-member l = length l.left
