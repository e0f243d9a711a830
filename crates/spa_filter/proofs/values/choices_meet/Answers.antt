use Rattle.spa_fixed_sized.specs.Choices.{choice_tree}
use Rattle.spa_filter.proofs.Outcomes.{HasOffer-choice, ValuesMeet-offers}
use Rattle.spa_filter.proofs.values.choices_meet.Goals as goal

pub returns : goal.returns
returns g c =
    let k = g.T.CanonicalFixedSizedPod.kind in
    let f = g.T.CanonicalFixedSizedPod.fixed in
    let its = g.met.T.CanonicalFixedSizedPod.its_kind in
    let a = c.args.choice.now in
    let b = c.args.other.now in
    let ours = c.offer_of.ensures in
    let theirs = c.offer_of-2.ensures in
    ValuesMeet-offers f c.offer_of.result c.offer_of-2.result (choice_tree k f a) (choice_tree k f b)
    (HasOffer-choice k f its a.0.0 a.1 c.offer_of.result (ours.offer a.0.0) (ours.masked a.0.0) (ours.bounded a.0.0))
    (HasOffer-choice k f its b.0.0 b.1 c.offer_of-2.result (theirs.offer b.0.0) (theirs.masked b.0.0) (theirs.bounded b.0.0))
    c.meet.result c.meet.ensures.meeting c.meet.ensures.sayable
