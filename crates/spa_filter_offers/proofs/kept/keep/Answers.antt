use Rattle.std.proofs.Common.{[], ◌∷◌, map, sym, ap, ◌∙◌, subst}
use Rattle.std.proofs.lemmas.List.{map-append}
use Rattle.spa_filter_offers.specs.Numbering.{HasAll}
use Rattle.spa_filter_offers.specs.Offers.{IsOneMoreKept, OfferAdmits}
use Rattle.spa_filter_offers.proofs.Keeping.{IsOneMoreKept-pushed}
use Rattle.spa_filter_offers.proofs.NumberLemmas.{HasAll-added, HasAll-again, Has-seen}
use Rattle.spa_filter_offers.proofs.kept.keep.Goals as goal

pub returns-in_ok-push-clause-kept : goal.returns-in_ok-push-clause-kept
returns-in_ok-push-clause-kept g c =
    let f = g.T.CanonicalFixedSizedPod.fixed in
    let P = OfferAdmits f c.args.offer.now in
    let x = c.args.value.now in
    let old = c.args.values.now.items in
    let is = ap (map f) c.in_ok-push.ensures.items ∙ map-append f old (x ∷ []) in
    subst (IsOneMoreKept P (f x) (map f old)) (sym is)
    (IsOneMoreKept-pushed P (f x) (map f old) (c.admits_by.ensures.0 c.if-not-admits_by.false))

pub returns-in_ok-push-clause-seen : goal.returns-in_ok-push-clause-seen
returns-in_ok-push-clause-seen g c =
    let f = g.T.CanonicalFixedSizedPod.fixed in
    let x = c.args.value.now in
    let old = c.args.values.now.items in
    let is = ap (map f) c.in_ok-push.ensures.items ∙ map-append f old (x ∷ []) in
    subst (HasAll c.add.new.set) (sym is)
    (HasAll-added c.args.seen.now c.add.new.set (f x) c.numbers.result c.numbers.ensures _ c.in_ok-add.ensures (map f old)
    c.requires.seen)

pub returns-else-branch-clause-seen : goal.returns-else-branch-clause-seen
returns-else-branch-clause-seen g c =
    let f = g.T.CanonicalFixedSizedPod.fixed in
    let x = f c.args.value.now in
    let there =
    Has-seen c.args.seen.now c.add.new.set x c.numbers.result c.numbers.ensures _ c.in_ok-add.ensures c.if-branch.false in
    HasAll-again c.args.seen.now c.add.new.set x c.numbers.result c.numbers.ensures _ c.in_ok-add.ensures
    (map f c.args.values.now.items) c.requires.seen there
