use Rattle.std.proofs.Common.{length}
use Rattle.spa_lenient.proofs.Lists.{IsUpTo}
use Rattle.spa_lenient.proofs.rewriting.append_members.Given as goal

abbrev pub invariant-loop-pod : goal.invariant-loop-pod
invariant-loop-pod l = IsUpTo l.fn.body l.left l.fn.out.items l.out.items

abbrev pub decreases-loop-pod : goal.decreases-loop-pod
decreases-loop-pod l = length l.left
