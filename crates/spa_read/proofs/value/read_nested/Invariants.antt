use Rattle.spa_read.proofs.Readings.{is_lenient}
use Rattle.std.proofs.Common.{◌≤◌, reverse}
use Rattle.spa_read.specs.Nesting.{IsUnderWay, ahead, around}
use Rattle.spa_read.proofs.value.read_nested.Given as goal

abbrev pub invariant-loop-nest : goal.invariant-loop-nest
invariant-loop-nest g l =
    IsUnderWay (is_lenient g.row.LENIENT) l.fn.input l.nest.inner (reverse (around l.nest)) l.left l.opened × (1 ≤ l.opened)

abbrev pub decreases-loop-nest : goal.decreases-loop-nest
decreases-loop-nest g l = ahead l.nest.inner (reverse (around l.nest)) l.left
