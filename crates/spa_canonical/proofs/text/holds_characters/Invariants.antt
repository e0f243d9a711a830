use Rattle.std.proofs.Common.{length}
use Rattle.spa_canonical.specs.Canonical.{AreTextAlike}
use Rattle.spa_canonical.proofs.text.holds_characters.Given as goal

abbrev pub invariant-loop-first : goal.invariant-loop-first
invariant-loop-first l = AreTextAlike l.left l.text

abbrev pub decreases-loop-first : goal.decreases-loop-first
decreases-loop-first l = length l.left
