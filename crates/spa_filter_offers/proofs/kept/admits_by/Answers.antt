use Rattle.std.proofs.Common.{◌∷◌, map, sym, ap, ◌∙◌, subst}
use Rattle.std.specs.BTreeSet.{contains}
use Rattle.spa_filter_offers.specs.Numbering.{HasAll, numbers_cmp}
use Rattle.spa_filter_offers.specs.Offers.{IsIndexed}
use Rattle.spa_filter_offers.proofs.kept.admits_by.Goals as goal

pub returns-in-Among : goal.returns-in-Among
returns-in-Among g c =
    let f = g.T.CanonicalFixedSizedPod.fixed in
    let set = c.args.index.now in
    let all = f c.in-Among.field-0 ∷ map f c.in-Among.field-1.now in
    let index : HasAll set all = subst (λ o. IsIndexed f o set) c.in-Among.is c.requires in
    let x = f c.args.x.now in
    let found = c.contains.ensures ∙ ap (contains numbers_cmp set) c.numbers.ensures in
    rw c.in-Among.is (λ h. (index.each x).0 (sym found ∙ h), λ h. found ∙ (index.each x).1 h)
