use Rattle.std.proofs.Common.{◌∷◌, map, take}
use Rattle.spa_filter_offers.specs.Numbering.{HasAll}
use Rattle.spa_filter_offers.specs.Offers.{OfferAdmits, IsKept}
use Rattle.spa_filter_offers.proofs.kept.kept_of_many.Given as goal

abbrev pub invariant-loop-value : goal.invariant-loop-value
invariant-loop-value g l =
    let content = g.T.CanonicalFixedSizedPod.fixed in
    let kept = map content l.values.items in
    HasAll l.seen kept
    × IsKept (OfferAdmits content l.other) (content l.first ∷ map content (take l.value-index l.others)) kept
