use Rattle.spa_negotiate.proofs.OfferViews.{sought_begun, sought_on, found_among}
use Rattle.spa_negotiate.proofs.offer_view.is_among.Goals as goal

pub loop-left-init : goal.loop-left-init
loop-left-init c = sought_begun c.args.size c.args.values.now

pub loop-left-preserved : goal.loop-left-preserved
loop-left-preserved c =
    sought_on _ _ _ _ c.requires.0 c.loop-left-test.true c.split_at.ensures.back c.loop-left.invariant

pub returns-then-is_same : goal.returns-then-is_same
returns-then-is_same c = λ _.
    found_among _ _ _ _ c.requires.0 c.loop-left-test.true (c.is_same.ensures c.if-is_same.true) c.loop-left.invariant
