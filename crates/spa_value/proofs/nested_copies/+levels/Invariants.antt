use Rattle.std.proofs.Common.{◌≡◌, ◌+◌, ◌*◌, ◌++◌, length}
use Rattle.spa_value.specs.NestedCopies.{with_left}
use Rattle.spa_value.specs.View.{object_view}
use Rattle.spa_value.specs.Views.{views}
use Rattle.spa_value.proofs.nested_copies.+levels.Given as goal

-- the levels that are left
abbrev pub decreases-copy_nested : goal.decreases-copy_nested
decreases-copy_nested l = 3 * l.levels

abbrev pub decreases-copy_members : goal.decreases-copy_members
decreases-copy_members l = 3 * l.levels + 2

abbrev pub decreases-copy_member : goal.decreases-copy_member
decreases-copy_member l = 3 * l.levels + 1

abbrev pub decreases-copy_object : goal.decreases-copy_object
decreases-copy_object l = 3 * l.levels + 2

abbrev pub decreases-copy_property : goal.decreases-copy_property
decreases-copy_property l = 3 * l.levels + 1

abbrev pub invariant-copy_members-loop-member : goal.invariant-copy_members-loop-member
invariant-copy_members-loop-member l = views (l.copies.items ++ l.left) ≡ views l.fn.members.items

abbrev pub decreases-copy_members-loop-member : goal.decreases-copy_members-loop-member
decreases-copy_members-loop-member l = length l.left

abbrev pub invariant-copy_object-loop-property : goal.invariant-copy_object-loop-property
invariant-copy_object-loop-property l = with_left l.begun l.left ≡ object_view l.fn.object

abbrev pub decreases-copy_object-loop-property : goal.decreases-copy_object-loop-property
decreases-copy_object-loop-property l = length l.left
