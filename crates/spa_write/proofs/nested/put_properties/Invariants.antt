use Rattle.std.proofs.Common.{length}
use Rattle.spa_write.proofs.Nesting.{PassedProperties}
use Rattle.spa_write.proofs.nested.put_properties.Given as goal

abbrev pub invariant-loop-property : goal.invariant-loop-property
invariant-loop-property l = PassedProperties l.fn.properties l.fn.out.items l.left l.out.items

abbrev pub decreases-loop-property : goal.decreases-loop-property
decreases-loop-property l = length l.left
