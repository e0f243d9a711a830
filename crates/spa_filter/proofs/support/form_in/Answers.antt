use Rattle.std.proofs.Common.{◌∙◌, sym, subst}
use Rattle.spa_filter_offers.specs.Forms.{IsFormOf}
use Rattle.spa_filter.proofs.Apart.{choice_body, choice_kind}
use Rattle.spa_filter.proofs.CommonPods.{has_body, with_type}
use Rattle.spa_filter.proofs.support.form_in.Goals as goal

pub returns : goal.returns
returns c = λ v p.
    let h = with_type v _ _ _ (has_body v _ _ _ _ p c.in-Some.ensures.there) c.if-front.false in
    let b = choice_body v c.in-Some.front.body.now h in
    subst (λ t. IsFormOf t (record { shape = c.u32_at.result; type_ = c.u32_at-2.result })) (sym b.its)
    (c.u32_at.ensures ∙ b.content.shape, c.u32_at-2.ensures ∙ choice_kind v _ b)
