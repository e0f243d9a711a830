use Rattle.std.proofs.Common.{◌+◌, ◌*◌, ◌<◌, ◌≤◌, length}
use Rattle.spa_format.specs.Words.{header_size}
use Rattle.spa_read.proofs.inside.pods_from.Given as goal

abbrev pub invariant-loop-left : goal.invariant-loop-left
invariant-loop-left l = (0 < l.count) × (8 * l.count + length l.left ≤ header_size + length l.fn.behind)

abbrev pub decreases-loop-left : goal.decreases-loop-left
decreases-loop-left l = length l.left
