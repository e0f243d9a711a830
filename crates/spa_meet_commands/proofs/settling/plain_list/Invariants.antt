use Rattle.std.proofs.Common.{◌≡◌, take}
use Rattle.spa_value.specs.Views.{property_views}
use Rattle.spa_meet_commands.specs.Settling.{plain_properties}
use Rattle.spa_meet_commands.proofs.settling.plain_list.Given as goal

abbrev pub invariant-loop-property : goal.invariant-loop-property
invariant-loop-property l =
    property_views l.met.properties.items ≡ plain_properties (property_views (take l.property-index l.properties))
