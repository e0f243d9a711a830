use Rattle.std.proofs.Common.{◌≡◌}
use Rattle.spa_value.specs.Comparison.{pair_eq}
use Rattle.spa_value.proofs.PairsLeft.{left_eq, steps}
use Rattle.spa_value.proofs.equality.same_within.Given as goal

abbrev pub invariant-loop-around : goal.invariant-loop-around
invariant-loop-around l = left_eq l.pair l.around.items ≡ pair_eq l.fn.first

abbrev pub decreases-loop-around : goal.decreases-loop-around
decreases-loop-around l = steps l.pair l.around.items
