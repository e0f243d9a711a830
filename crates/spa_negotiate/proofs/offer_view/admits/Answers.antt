use Rattle.spa_negotiate.proofs.OfferViews.{admit_among, admit_between}
use Rattle.spa_negotiate.proofs.offer_view.admits.Goals as goal

pub returns-in-3 : goal.returns-in-3
returns-in-3 c = λ e v o. admit_among v c.args.offer.now c.args.value.now o c.in-3.is (c.is_among.ensures e)

pub returns-then-is_at_most : goal.returns-then-is_at_most
returns-then-is_at_most c = λ e v o.
    admit_between v c.args.offer.now c.args.value.now o _ _ c.in-1.is c.requires.values.0 c.if-low-size.false c.if-high-size.false
    c.split_at.ensures.back c.split_at-in-1.ensures.back (c.is_at_most.ensures c.if-is_at_most.true) (c.is_at_most-then-is_at_most.ensures e)
