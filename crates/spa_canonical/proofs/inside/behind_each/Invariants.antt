use Rattle.std.proofs.Common.{length, ◌≡◌}
use Rattle.std.specs.Prelude.{true}
use Rattle.spa_canonical.specs.Look.{Passes}
use Rattle.spa_canonical.proofs.inside.behind_each.Given as goal

abbrev pub invariant-loop-rest : goal.invariant-loop-rest
invariant-loop-rest l = Passes l.keyed l.canonical l.pods l.left l.surplus × (l.canonical ≡ true → l.surplus ≡ 0)

abbrev pub decreases-loop-rest : goal.decreases-loop-rest
decreases-loop-rest l = length l.left
