use Rattle.std.proofs.Common.{◌≡◌, take}
use Rattle.spa_value.specs.Views.{property_views}
use Rattle.spa_filter.specs.Settling.{settled_properties}
use Rattle.spa_filter.proofs.settling.settled_list.Given as goal

abbrev pub invariant-loop-property : goal.invariant-loop-property
invariant-loop-property l =
    property_views l.met.properties.items ≡ settled_properties (property_views (take l.property-index l.properties))
