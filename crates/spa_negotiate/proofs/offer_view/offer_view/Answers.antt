use Rattle.std.proofs.Common.{refl}
use Rattle.spa_negotiate.proofs.OfferViews.{plain_offer}
use Rattle.spa_negotiate.proofs.offer_view.offer_view.Goals as goal

pub returns : goal.returns
returns c = λ v p.
    plain_offer v c.args.pod.now c.in_ok-front.front.body.now _ c.in_ok-front.front.type_ _ c.in_ok-front.ensures.there (c.is_element_type.ensures c.if-not-is_element_type.false) p
    refl refl refl refl
