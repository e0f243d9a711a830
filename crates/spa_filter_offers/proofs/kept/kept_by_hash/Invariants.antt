use Rattle.std.proofs.Common.{◌∷◌, map, take}
use Rattle.spa_filter_offers.specs.Offers.{OfferAdmits, IsKept}
use Rattle.spa_filter_offers.proofs.kept.kept_by_hash.Given as goal

abbrev pub invariant-loop-value : goal.invariant-loop-value
invariant-loop-value g l =
    let content = g.T.CanonicalFixedSizedPod.fixed in
    IsKept (OfferAdmits content l.other) (content l.first ∷ map content (take l.value-index l.others)) (map content l.values.items)
