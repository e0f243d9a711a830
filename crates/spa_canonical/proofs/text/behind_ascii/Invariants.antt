use Rattle.std.proofs.Common.{◌≤◌, length}
use Rattle.spa_canonical.specs.Canonical.{AreTextAlike}
use Rattle.spa_canonical.proofs.text.behind_ascii.Given as goal

abbrev pub invariant-loop-left : goal.invariant-loop-left
invariant-loop-left l = AreTextAlike l.left l.text × (length l.left ≤ length l.text)

abbrev pub decreases-loop-left : goal.decreases-loop-left
decreases-loop-left l = length l.left
