use Rattle.std.proofs.Common.{ℕ, ◌<◌}
use Rattle.spa_filter_elements.specs.Ratios.{HasRatio}
use Rattle.spa_filter_elements.proofs.common_multiples.greatest_divisor.Given as goal

abbrev pub invariant-loop-second : goal.invariant-loop-second
invariant-loop-second l = (0 < l.first) × ((g : ℕ) → HasRatio l.first l.second g → HasRatio l.fn.x l.fn.y g)

abbrev pub decreases-loop-second : goal.decreases-loop-second
decreases-loop-second l = l.second
