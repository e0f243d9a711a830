use Rattle.std.proofs.Common.{sym, ◌∙◌, true≢false}
use Rattle.spa_filter_offers.proofs.SharedMasks.{IsSharedMask-first, IsSharedMask-second, IsSharedMask-other}
use Rattle.spa_filter_offers.proofs.meeting.shared_mask.Goals as goal

pub returns-then-are_among : goal.returns-then-are_among
returns-then-are_among g c = IsSharedMask-first _ _ (c.are_among.ensures.0 c.if-are_among.true)

pub returns-then-are_among-2 : goal.returns-then-are_among-2
returns-then-are_among-2 g c =
    IsSharedMask-second _ _ (λ h. true≢false (sym (c.are_among.ensures.1 h) ∙ c.if-are_among.false))
    (c.are_among-2.ensures.0 c.if-are_among-2.true)

pub returns : goal.returns
returns g c =
    IsSharedMask-other _ _ (λ h. true≢false (sym (c.are_among.ensures.1 h) ∙ c.if-are_among.false))
    (λ h. true≢false (sym (c.are_among-2.ensures.1 h) ∙ c.if-are_among-2.false)) _ c.shared.ensures
