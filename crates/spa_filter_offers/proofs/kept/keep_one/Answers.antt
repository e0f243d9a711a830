use Rattle.std.proofs.Common.{[], ◌∷◌, map, sym, ap, ◌∙◌, subst}
use Rattle.std.specs.List.{Contains}
use Rattle.std.proofs.lemmas.List.{map-append}
use Rattle.spa_filter_offers.specs.Offers.{IsOneMoreKept, OfferAdmits}
use Rattle.spa_filter_offers.proofs.Keeping.{IsOneMoreKept-pushed, IsOneMoreKept-seen}
use Rattle.spa_filter_offers.proofs.kept.keep_one.Goals as goal

pub returns : goal.returns
returns g c =
    let f = g.T.CanonicalFixedSizedPod.fixed in
    let P = OfferAdmits f c.args.offer.now in
    let x = c.args.value.now in
    let old = c.args.values.now.items in
    let is = ap (map f) c.in_ok-push.ensures.items ∙ map-append f old (x ∷ []) in
    subst (IsOneMoreKept P (f x) (map f old)) (sym is)
    (IsOneMoreKept-pushed P (f x) (map f old) (c.admits.ensures.0 c.if-not-admits.false))

pub returns-then-is_among : goal.returns-then-is_among
returns-then-is_among g c =
    let f = g.T.CanonicalFixedSizedPod.fixed in
    let x = f c.args.value.now in
    let there = subst (λ ys. Contains (map f ys) x) c.as_slice.ensures.value (c.is_among.ensures.0 c.if-is_among.true) in
    IsOneMoreKept-seen (OfferAdmits f c.args.offer.now) x (map f c.args.values.now.items) there
