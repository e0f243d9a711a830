use Rattle.std.proofs.Common.{◌≡◌, length}
use Rattle.std.specs.Cmp.Lexicographic.{pointwise}
use Rattle.spa_value.proofs.elements.same_slices.Given as goal

abbrev pub invariant-loop-left : goal.invariant-loop-left
invariant-loop-left g l =
    (length l.left ≡ length l.others_left)
    × (pointwise g.T.PartialEq.eq l.left l.others_left ≡ pointwise g.T.PartialEq.eq l.elements l.others)

abbrev pub decreases-loop-left : goal.decreases-loop-left
decreases-loop-left g l = length l.left
