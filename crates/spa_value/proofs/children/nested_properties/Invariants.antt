use Rattle.std.proofs.Common.{length}
use Rattle.std.specs.Prelude.{⊤}
use Rattle.spa_value.proofs.children.nested_properties.Given as goal

abbrev pub invariant-loop-property : goal.invariant-loop-property
invariant-loop-property l = ⊤

abbrev pub decreases-loop-property : goal.decreases-loop-property
decreases-loop-property l = length l.left
