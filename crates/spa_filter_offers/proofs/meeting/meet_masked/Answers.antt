use Rattle.std.proofs.Common.{map, sym, ◌∙◌, subst, true≢false}
use Rattle.spa_filter_elements.specs.Flags.{AreAmong}
use Rattle.spa_filter_offers.specs.Offers.{MeetsIn}
use Rattle.spa_filter_offers.proofs.SharedMasks.{none-masked, MeetsIn-masked}
use Rattle.spa_filter_offers.proofs.meeting.meet_masked.Goals as goal

pub returns-then-not-are_among : goal.returns-then-not-are_among
returns-then-not-are_among g c =
    let f = g.T.CanonicalFixedSizedPod.fixed in
    none-masked (f c.args.mask.now) (f c.args.other.now) (f c.shared_mask-shared.result) c.shared_mask-shared.ensures
    (λ h. true≢false (sym (c.are_among.ensures.1 h) ∙ c.if-not-are_among.true))

pub returns : goal.returns
returns g c =
    let f = g.T.CanonicalFixedSizedPod.fixed in
    let m = f c.args.mask.now in
    let n = f c.args.other.now in
    subst (MeetsIn (λ x. AreAmong x m) (λ x. AreAmong x n) m n) (sym c.choice.ensures)
    (MeetsIn-masked m n (f c.shared_mask-shared.result) c.shared_mask-shared.ensures
    (c.are_among.ensures.0 c.if-not-are_among.false) g.T.CanonicalFixedSizedPod.kind (map f c.new.result.items))
