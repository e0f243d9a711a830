use Rattle.std.proofs.Common.{map, take}
use Rattle.std.specs.List.{Contains}
use Rattle.spa_filter_offers.proofs.offer.is_among.Given as goal

abbrev pub invariant-loop-element : goal.invariant-loop-element
invariant-loop-element g l =
    let content = g.T.CanonicalFixedSizedPod.fixed in
    ¬ (Contains (map content (take l.element-index l.elements)) (content l.x))
