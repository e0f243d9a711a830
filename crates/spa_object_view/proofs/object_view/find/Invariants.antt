use Rattle.std.proofs.Common.{length}
use Rattle.spa_object_view.proofs.Listed.{AreSearched}
use Rattle.spa_object_view.proofs.object_view.find.Given as goal

abbrev pub invariant-loop-first : goal.invariant-loop-first
invariant-loop-first l = AreSearched l.key l.properties l.left

abbrev pub decreases-loop-first : goal.decreases-loop-first
decreases-loop-first l = length l.left
