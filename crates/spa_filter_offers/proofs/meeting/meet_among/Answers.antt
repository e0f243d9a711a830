use Rattle.std.proofs.Common.{map, sym, subst}
use Rattle.spa_filter_offers.specs.Offers.{MeetsIn, OfferAdmits, default_of}
use Rattle.spa_filter_offers.proofs.Meetings.{MeetsIn-among}
use Rattle.spa_filter_offers.proofs.meeting.meet_among.Goals as goal

pub returns : goal.returns
returns g c =
    let f = g.T.CanonicalFixedSizedPod.fixed in
    let P = OfferAdmits f c.args.a.now in
    let Q = OfferAdmits f c.args.b.now in
    let d = default_of f c.args.a.now in
    let e = default_of f c.args.b.now in
    let xs = map f c.args.values.items in
    let x = f c.common_default-default.result in
    subst (MeetsIn P Q d e) (sym c.choice.ensures)
    (MeetsIn-among P Q d e g.T.CanonicalFixedSizedPod.kind xs c.requires.each x c.common_default-default.ensures)
