-- Properties found by their keys, and sets of keys, over the lists of properties that the code has.
use Rattle.std.specs.Prelude.{◌≡◌, ℕ, ◌<◌, List, length, Bool, not, ◌==◌, if◌then◌else◌, true, Option, Some, None, get_or}
use Rattle.std.specs.BTreeMap.{BTreeMap, get}
use Rattle.std.specs.BTreeSet.{BTreeSet}
use Rattle.std.specs.BTreeSet as keys
use Rattle.std.specs.Ordering.{nat_cmp}
use Rattle.spa_format.specs.Tree.{Properties, no_properties, property, join_properties}
use Rattle.spa_value.specs.declared.object.Property.{Property}
use Rattle.spa_value.specs.View.{view}
use Rattle.spa_value.specs.Views.{property_views}
use Rattle.spa_keyed_objects.specs.Keys.{Offered, offered, offered_at, key_list, contains}
use Rattle.spa_keyed_objects.specs.declared.keyed.Keyed.{Keyed}

-- the flags and the value of the first of these properties with the key; None where none has it
abbrev pub offered_in : ℕ → List Property → Option Offered
offered_in key properties = offered_at key (property_views properties)

-- the flags and the value of a property
abbrev pub offered_by : Property → Offered
offered_by p = offered p.flags.0 (view p.value)

-- the flags and the value that were found are those of the property at this index, or nothing was found
abbrev pub IsFoundAt : List Property → Option Offered → Option ℕ → Type 0
IsFoundAt properties found None = found ≡ None
IsFoundAt properties found (Some place) =
    (place < length properties)
    × ((p : Property) → p ≡ get_or properties place p → found ≡ Some (offered_by p))

-- the map has the index of the first property with each key, and no other key
abbrev pub HasPlaces : BTreeMap ℕ ℕ → List Property → Type 0
HasPlaces places properties =
    (key : ℕ) → IsFoundAt properties (offered_in key properties) (get nat_cmp places key)

-- the map of `keyed` has the index of the first of its properties with each key
pub record IsKeyed (keyed : Keyed) : Type 0 where
  pub places : HasPlaces keyed.places keyed.properties.now

-- the set has the keys of these properties, and no other
abbrev pub HasKeys : BTreeSet ℕ → Properties → Type 0
HasKeys set ps = (key : ℕ) → keys.contains nat_cmp set key ≡ contains key (key_list ps)

-- the key was added to the set, in which it was new or not
pub record IsAdded (old : BTreeSet ℕ) (key : ℕ) (is_new : Bool) (new : BTreeSet ℕ) : Type 0 where
  pub absent : is_new ≡ not (keys.contains nat_cmp old key)
  pub others : (k : ℕ) →
      keys.contains nat_cmp new k ≡ (if key == k then true else keys.contains nat_cmp old k)

-- a property was appended
abbrev pub IsPushed : (old : List Property) → Property → (new : List Property) → Type 0
IsPushed old p new =
    property_views new
    ≡ join_properties (property_views old) (property p.key p.flags.0 (view p.value) no_properties)
