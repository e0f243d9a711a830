-- Filtered keys, over the lists of properties that the code has.
use Rattle.std.specs.Prelude.{◌≡◌, List}
use Rattle.std.specs.List.{All}
use Rattle.spa_format.specs.Tree.{Properties, join_properties}
use Rattle.spa_value.specs.declared.object.Property.{Property}
use Rattle.spa_value.specs.Views.{property_views}
use Rattle.spa_keyed_objects.specs.Keys.{AtKey, HoldsAtKeys, key_list}
use Rattle.spa_keyed_objects.specs.PropertyLists.{HasKeys}
use Rattle.spa_filter.specs.Filtering.{Agree, Filters}
use Rattle.spa_filter.specs.declared.filtering.Filtered.{Filtered}

-- the outcome so far has the properties to which the two sides filter under these keys, the sides agree under each,
-- and the set has the keys
pub record IsFiltered (ours theirs : List Property) (these : Properties) (f : Filtered) : Type 0 where
  pub filters : HoldsAtKeys Filters (property_views ours) (property_views theirs) these (property_views f.met.properties.items)
  pub agree : All (AtKey Agree (property_views ours) (property_views theirs))
      (key_list (property_views f.met.properties.items))
  pub keys : HasKeys f.keys these

-- the properties of `side` come next behind those of `before` in the joined properties of both sides
pub record IsPart (ours theirs before side : List Property) : Type 0 where
  pub rest : Properties
  pub whole : join_properties (property_views ours) (property_views theirs)
      ≡ join_properties (join_properties (property_views before) (property_views side)) rest
