use Rattle.std.proofs.Common.{◌≡◌, ◌≤◌, ◌++◌, length}
use Rattle.spa_format.specs.Tree.{member_node_count}
use Rattle.spa_value.specs.Views.{views}
use Rattle.spa_value.proofs.nested_copies.CopiedStruct.copy_on.Given as goal

abbrev pub invariant-loop-member : goal.invariant-loop-member
invariant-loop-member l =
    (views (l.self.copies.items ++ l.left) ≡ views (l.fn.self.copies.items ++ l.fn.self.left.now)) × (member_node_count (views l.left) ≤ member_node_count (views l.fn.self.left.now))

abbrev pub decreases-loop-member : goal.decreases-loop-member
decreases-loop-member l = length l.left
