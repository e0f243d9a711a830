use Rattle.std.proofs.Common.{sym, ◌∙◌, true≢false}
use Rattle.spa_filter_offers.proofs.Meetings.{none-between}
use Rattle.spa_filter_offers.proofs.meeting.meet_between.Goals as goal

pub returns-then-not-is_at_most : goal.returns-then-not-is_at_most
returns-then-not-is_at_most g c =
    let f = g.T.CanonicalFixedSizedPod.fixed in
    none-between _ _ (f c.args.low.now) (f c.args.high.now) c.requires.each
    (λ h. true≢false (sym (c.is_at_most.ensures.1 h) ∙ c.if-not-is_at_most.true))
