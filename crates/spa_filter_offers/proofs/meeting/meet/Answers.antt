use Rattle.std.proofs.Common.{map, sym, subst}
use Rattle.spa_filter_offers.specs.Offers.{AreKept}
use Rattle.spa_filter_offers.proofs.meeting.meet.Goals as goal

pub meet_among-requires : goal.meet_among-requires
meet_among-requires g c =
    let f = g.T.CanonicalFixedSizedPod.fixed in
    let kept = c.in_ok-values-in_default-b in
    subst (λ o. AreKept f o c.args.b.now (map f kept.values.items)) (sym c.in-Among.is)
    (record { each = kept.ensures.each })

pub meet_among-requires-in-Among-b : goal.meet_among-requires-in-Among-b
meet_among-requires-in-Among-b g c =
    let f = g.T.CanonicalFixedSizedPod.fixed in
    let kept = c.in_ok-values-in-Among-b in
    subst (λ o. AreKept f c.args.a.now o (map f kept.values.items)) (sym c.in-Among-b.is)
    (record {
      each = λ x.
          (λ h. let both = (kept.ensures.each x).0 h in (both.1, both.0), λ h. (kept.ensures.each x).1 (h.1, h.0));
    })
