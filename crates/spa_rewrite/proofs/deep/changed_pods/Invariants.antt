use Rattle.std.proofs.Common.{length}
use Rattle.spa_canonical.proofs.Stretches.{FirstMembers}
use Rattle.spa_rewrite.proofs.deep.changed_pods.Given as goal

abbrev pub invariant-loop-all : goal.invariant-loop-all
invariant-loop-all l = FirstMembers l.input l.left

abbrev pub decreases-loop-all : goal.decreases-loop-all
decreases-loop-all l = length l.left
