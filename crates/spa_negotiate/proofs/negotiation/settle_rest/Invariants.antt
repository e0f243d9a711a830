use Rattle.std.proofs.Common.{List, take}
use Rattle.spa_format.specs.Tree.{join_properties}
use Rattle.spa_value.specs.declared.object.Property.{Property}
use Rattle.spa_value.specs.Views.{property_views}
use Rattle.spa_negotiate.specs.PropertyLists.{IsSettled}
use Rattle.spa_negotiate.proofs.negotiation.settle_rest.Given as goal

abbrev pub invariant-loop-property : goal.invariant-loop-property
invariant-loop-property l =
    (ours : List Property) → IsSettled ours l.b (property_views ours) l.fn.first →
    IsSettled ours l.b (join_properties (property_views ours) (property_views (take l.property-index l.b))) (record { met = l.met; keys = l.keys })
