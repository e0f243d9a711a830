use Rattle.std.proofs.Common.{length}
use Rattle.std.specs.Prelude.{⊤}
use Rattle.spa_value.proofs.children.nested_members.Given as goal

abbrev pub invariant-loop-member : goal.invariant-loop-member
invariant-loop-member l = ⊤

abbrev pub decreases-loop-member : goal.decreases-loop-member
decreases-loop-member l = length l.left
