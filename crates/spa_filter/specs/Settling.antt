-- An object with each choice at its default, and how that settles a filter: docs/NEGOTIATION.md, "To filter".
use Rattle.std.specs.Prelude.{◌≡◌, ℕ, Option, Some, None}
use Rattle.spa_format.specs.Tree.{Tree, object, Properties, no_properties, property, join_properties}
use Rattle.spa_filter_offers.specs.Admits.{plain_of, IsCommon, IsPlain}
use Rattle.spa_keyed_objects.specs.Keys.{HoldsAtKeys, Offered}
use Rattle.spa_filter.specs.Filtering.{IsFilter}

-- the properties, each with its plain value, or with the default of its choice
abbrev pub settled_properties : Properties → Properties
settled_properties no_properties = no_properties
settled_properties (property key flags value rest) = property key flags (plain_of value) (settled_properties rest)

-- the object with each property's choice at its default
abbrev pub settled_of : Tree → Tree
settled_of (object type id ps) = object type id (settled_properties ps)
settled_of v = v

-- x settles one key of the two sides: both values admit it, or, of a key of one side, it is that side's plain value or its choice's default
abbrev pub Settles : Option Offered → Option Offered → Tree → Type 0
Settles (Some a) (Some b) x = IsCommon a.value b.value x
Settles (Some a) None x = x ≡ plain_of a.value
Settles None (Some b) x = x ≡ plain_of b.value
Settles None None x = ⊥

-- x is a plain value that settles the key, whatever the flags are
abbrev pub IsFixedAt : Option Offered → Option Offered → ℕ → Tree → Type 0
IsFixedAt ours theirs flags x = IsPlain x × Settles ours theirs x

-- The third object is a fixed one that the two sides admit: it has the type of both and the first's id, each key of
-- either once, and a plain value under each that settles it.
abbrev pub IsFixedFor : Tree → Tree → Tree → Type 0
IsFixedFor (object type our_id ours) (object its_type its_id theirs) (object met_type met_id met) =
    (its_type ≡ type) × (met_type ≡ type) × (met_id ≡ our_id)
    × HoldsAtKeys IsFixedAt ours theirs (join_properties ours theirs) met
IsFixedFor _ _ _ = ⊥

-- an object to which two filter, settled, is a fixed object that both admit
abbrev pub FiltersSettle : Type 0
FiltersSettle = (v w met : Tree) → IsFilter v w met → IsFixedFor v w (settled_of met)
