use Rattle.std.proofs.Common.{take}
use Rattle.spa_value.specs.Views.{property_views}
use Rattle.spa_negotiate.specs.PropertyLists.{IsSettled}
use Rattle.spa_negotiate.proofs.negotiation.settle_first.Given as goal

abbrev pub invariant-loop-property : goal.invariant-loop-property
invariant-loop-property l =
    let these = property_views (take l.property-index l.a) in
    IsSettled l.a l.b.properties.now these (record { met = l.met; keys = l.keys })
