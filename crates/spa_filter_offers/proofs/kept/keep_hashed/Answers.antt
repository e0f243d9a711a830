use Rattle.std.proofs.Common.{[], ◌∷◌, map, sym, ap, ◌∙◌, subst}
use Rattle.std.proofs.lemmas.List.{map-append}
use Rattle.spa_filter_offers.specs.Offers.{IsOneMoreKept, OfferAdmits}
use Rattle.spa_filter_offers.proofs.Keeping.{IsOneMoreKept-pushed}
use Rattle.spa_filter_offers.proofs.kept.keep_hashed.Goals as goal

pub returns-in-Some : goal.returns-in-Some
returns-in-Some g c t =
    let f = g.T.CanonicalFixedSizedPod.fixed in
    let P = OfferAdmits f c.args.offer.now in
    let x = c.args.value.now in
    let old = c.args.values.now.items in
    let is = ap (map f) c.in_ok-push.ensures.items ∙ map-append f old (x ∷ []) in
    subst (IsOneMoreKept P (f x) (map f old)) (sym is)
    (IsOneMoreKept-pushed P (f x) (map f old) (c.admits.ensures.0 c.if-not-admits.false))

pub returns-in_default-get_mut : goal.returns-in_default-get_mut
returns-in_default-get_mut g c t =
    let f = g.T.CanonicalFixedSizedPod.fixed in
    let P = OfferAdmits f c.args.offer.now in
    let x = c.args.value.now in
    let old = c.args.values.now.items in
    let is = ap (map f) c.in_ok-push.ensures.items ∙ map-append f old (x ∷ []) in
    subst (IsOneMoreKept P (f x) (map f old)) (sym is)
    (IsOneMoreKept-pushed P (f x) (map f old) (c.admits.ensures.0 c.if-not-admits.false))
