use Rattle.std.proofs.Common.{length}
use Rattle.spa_write.proofs.Nesting.{PassedMembers}
use Rattle.spa_write.proofs.nested.put_members.Given as goal

abbrev pub invariant-loop-member : goal.invariant-loop-member
invariant-loop-member l = PassedMembers l.fn.members l.fn.out.items l.left l.out.items

abbrev pub decreases-loop-member : goal.decreases-loop-member
decreases-loop-member l = length l.left
