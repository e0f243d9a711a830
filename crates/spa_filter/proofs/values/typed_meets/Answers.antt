use Rattle.std.proofs.Common.{ap, sym, subst}
use Rattle.spa_format.specs.Tree.{fixed}
use Rattle.spa_fixed_sized.specs.Choices.{choice_tree}
use Rattle.spa_value.specs.View.{view}
use Rattle.spa_filter_offers.specs.Admits.{AdmitsNone}
use Rattle.spa_filter_offers.specs.declared.offer.Offer.TheVariants.{Only}
use Rattle.spa_filter_offers.proofs.Offering.{none_typed}
use Rattle.spa_filter.proofs.Outcomes.{HasOffer-choice, HasOffer-content, ValuesMeet-offers}
use Rattle.spa_filter.proofs.Plain.{IsPlainTree-view}
use Rattle.spa_filter.proofs.values.typed_meets.Goals as goal

pub returns-in-None : goal.returns-in-None
returns-in-None g c = λ supported.
    let pod = g.T.CanonicalFixedSizedPod in
    let a = c.args.choice.now in
    none_typed pod.kind pod.fixed g.met.T.CanonicalFixedSizedPod.its_kind a.0.0 a.1 (view c.args.b.now)
    (subst (AdmitsNone pod.kind) (sym (ap view c.in-Choice.is)) c.in-None.ensures)

pub returns-in-Some-in_value : goal.returns-in-Some-in_value
returns-in-Some-in_value g c =
    let k = g.T.CanonicalFixedSizedPod.kind in
    let f = g.T.CanonicalFixedSizedPod.fixed in
    let a = c.args.choice.now in
    let x = c.in-Some-in_value.x in
    let ours = c.offer_of.ensures in
    ValuesMeet-offers f c.offer_of.result (Only x) (choice_tree k f a) (view c.args.b.now)
    (HasOffer-choice k f g.met.T.CanonicalFixedSizedPod.its_kind a.0.0 a.1 c.offer_of.result (ours.offer a.0.0) (ours.masked a.0.0) (ours.bounded a.0.0))
    (HasOffer-content f x (view c.args.b.now) c.in-Some-in_value.ensures) c.meet.result c.meet.ensures.meeting c.meet.ensures.sayable

pub returns-in-None-in_value : goal.returns-in-None-in_value
returns-in-None-in_value g c = λ supported.
    let pod = g.T.CanonicalFixedSizedPod in
    let a = c.args.choice.now in
    let plain = IsPlainTree-view c.args.b.now c.in_default.not-Choice in
    none_typed pod.kind pod.fixed g.met.T.CanonicalFixedSizedPod.its_kind a.0.0 a.1 (view c.args.b.now)
    (λ x h. c.in-None-in_value.ensures x (sym (plain.alone (fixed x) h)))
