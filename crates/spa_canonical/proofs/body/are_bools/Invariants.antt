use Rattle.std.proofs.Common.{length}
use Rattle.spa_format.specs.Kind.{bool_kind}
use Rattle.spa_format.specs.Typed.{IsBytes}
use Rattle.spa_canonical.specs.Canonical.{AreCanonicalElements}
use Rattle.spa_canonical.proofs.body.are_bools.Given as goal

abbrev pub invariant-loop-left : goal.invariant-loop-left
invariant-loop-left l =
    IsBytes l.left × (AreCanonicalElements bool_kind l.left → AreCanonicalElements bool_kind l.elements)
    × (AreCanonicalElements bool_kind l.elements → AreCanonicalElements bool_kind l.left)

abbrev pub decreases-loop-left : goal.decreases-loop-left
decreases-loop-left l = length l.left
