use Rattle.std.proofs.Common.{◌≤◌}
use Rattle.spa_format.specs.Tree.{member_node_count}
use Rattle.spa_canonical.specs.Depth.{member_depth}
use Rattle.spa_value.specs.Views.{views}
use Rattle.spa_write.proofs.count.innermost.Given as goal

abbrev pub invariant-loop-inner : goal.invariant-loop-inner
invariant-loop-inner l =
    (member_node_count (views l.left) ≤ member_node_count (views l.fn.members))
    × (member_depth (views l.left) ≤ member_depth (views l.fn.members))

abbrev pub decreases-loop-inner : goal.decreases-loop-inner
decreases-loop-inner l = member_node_count (views l.left)
