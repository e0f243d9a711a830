use Rattle.std.proofs.Common.{sym, subst}
use Rattle.spa_filter_offers.specs.Offers.{OffersMeet}
use Rattle.spa_filter_offers.specs.declared.offer.Offer.TheVariants.{Masked}
use Rattle.spa_filter_offers.proofs.meeting.meet_wide.Goals as goal

pub returns-in-Masked-b-clause-meeting : goal.returns-in-Masked-b-clause-meeting
returns-in-Masked-b-clause-meeting g c = λ sayable.
    let f = g.T.CanonicalFixedSizedPod.fixed in
    let r = c.meet_masked.result in
    subst (λ o. OffersMeet f o c.args.b.now r) (sym c.in-Masked.is)
    (subst (λ o. OffersMeet f (Masked c.in-Masked.mask) o r) (sym c.in-Masked-b.is) c.meet_masked.ensures)
