use Rattle.std.proofs.Common.{sym, ◌∙◌, true≢false}
use Rattle.spa_filter_elements.proofs.Joins.{IsJoin-in_order, IsJoin-greater}
use Rattle.spa_filter_elements.proofs.ordered.greater_of.Goals as goal

pub returns-then-is_at_most : goal.returns-then-is_at_most
returns-then-is_at_most g c =
    let law = g.met.T.CanonicalFixedSizedPod.its_kind in
    let x = c.args.x.now in
    let y = c.args.y.now in
    IsJoin-in_order _ c.requires _ _ (law x) (law y) (c.is_at_most.ensures.0 c.if-is_at_most.true)

pub returns-then-is_at_most-2 : goal.returns-then-is_at_most-2
returns-then-is_at_most-2 g c =
    let law = g.met.T.CanonicalFixedSizedPod.its_kind in
    let x = c.args.x.now in
    let y = c.args.y.now in
    IsJoin-greater _ c.requires _ _ (law x) (law y)
    (λ h. true≢false (sym (c.is_at_most.ensures.1 h) ∙ c.if-is_at_most.false))
    (c.is_at_most-2.ensures.0 c.if-is_at_most-2.true)
