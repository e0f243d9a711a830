use Rattle.std.proofs.Common.{◌∷◌, map, take}
use Rattle.spa_filter_offers.specs.Numbering.{HasAll}
use Rattle.spa_filter_offers.proofs.kept.index_of_all.Given as goal

abbrev pub invariant-loop-other : goal.invariant-loop-other
invariant-loop-other g l =
    let content = g.T.CanonicalFixedSizedPod.fixed in
    HasAll l.index (content l.first ∷ map content (take l.other-index l.others))
