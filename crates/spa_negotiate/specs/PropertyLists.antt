-- Settled keys, over the lists of properties that the code has.
use Rattle.std.specs.Prelude.{List}
use Rattle.spa_format.specs.Tree.{Properties}
use Rattle.spa_value.specs.declared.object.Property.{Property}
use Rattle.spa_value.specs.Views.{property_views}
use Rattle.spa_keyed_objects.specs.Keys.{HoldsAtKeys}
use Rattle.spa_keyed_objects.specs.PropertyLists.{HasKeys}
use Rattle.spa_negotiate.specs.Meeting.{IsMetAt}
use Rattle.spa_negotiate.specs.declared.negotiation.Settled.{Settled}

-- met has each key of these properties once, with the flags and the value in which the two sides meet under it
abbrev pub AreSettled : (ours theirs : List Property) → Properties → List Property → Type 0
AreSettled ours theirs these met =
    HoldsAtKeys IsMetAt (property_views ours) (property_views theirs) these (property_views met)

-- the outcome so far has each key of these properties, settled, and the set has these keys
pub record IsSettled (ours theirs : List Property) (these : Properties) (s : Settled) : Type 0 where
  pub settles : AreSettled ours theirs these s.met.properties.items
  pub keys : HasKeys s.keys these
