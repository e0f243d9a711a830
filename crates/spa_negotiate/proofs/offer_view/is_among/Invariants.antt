use Rattle.std.proofs.Common.{length}
use Rattle.spa_negotiate.proofs.OfferViews.{AreSought}
use Rattle.spa_negotiate.proofs.offer_view.is_among.Given as goal

abbrev pub invariant-loop-left : goal.invariant-loop-left
invariant-loop-left l = AreSought l.size l.values l.left

abbrev pub decreases-loop-left : goal.decreases-loop-left
decreases-loop-left l = length l.left
