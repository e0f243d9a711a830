use Rattle.spa_negotiate.proofs.OfferViews.{choice_offer}
use Rattle.spa_negotiate.proofs.offer_view.choice_view.Goals as goal

pub returns : goal.returns
returns c = λ v t h.
    choice_offer v c.args.body.now _ t h c.u32_at.ensures c.u32_at-type_.ensures c.u32_at-size.ensures c.split_at.ensures.back
