use Rattle.std.proofs.Common.{[], ◌∷◌, map, take, sym, ap, subst}
use Rattle.spa_filter_offers.specs.Numbering.{HasAll}
use Rattle.spa_filter_offers.proofs.Contents.{map-next}
use Rattle.spa_filter_offers.proofs.NumberLemmas.{empty_has_none, HasAll-added}
use Rattle.spa_filter_offers.proofs.kept.index_of_all.Goals as goal

pub loop-other-init : goal.loop-other-init
loop-other-init g c =
    let none = empty_has_none c.new-index.result c.new-index.ensures.empty in
    HasAll-added c.new-index.result c.add.new.set _ c.numbers.result c.numbers.ensures _ c.in_ok-add.ensures [] none

pub loop-other-preserved : goal.loop-other-preserved
loop-other-preserved g c =
    let content = g.T.CanonicalFixedSizedPod.fixed in
    let first = content c.args.first.now in
    let l = c.loop-other in
    let more = map-next content c.args.others.now l.other-index _ c.loop-other-test.true c.other-item.is in
    subst (HasAll c.add-in-loop-other.new.set) (sym (ap (λ ys. first ∷ ys) more))
    (HasAll-added l.index c.add-in-loop-other.new.set _ c.numbers-in-loop-other.result c.numbers-in-loop-other.ensures _
    c.in_ok-add-2.ensures (first ∷ map content (take l.other-index c.args.others.now)) l.invariant)
