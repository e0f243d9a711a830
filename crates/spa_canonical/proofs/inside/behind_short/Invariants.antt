use Rattle.std.proofs.Common.{length}
use Rattle.spa_canonical.specs.Look.{Passes}
use Rattle.spa_canonical.proofs.inside.behind_short.Given as goal

abbrev pub invariant-loop-rest : goal.invariant-loop-rest
invariant-loop-rest l = Passes l.keyed l.canonical l.pods l.left 0

abbrev pub decreases-loop-rest : goal.decreases-loop-rest
decreases-loop-rest l = length l.left
