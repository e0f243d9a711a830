-- The laws of src/laws.rt on the trees of objects, and on lists of properties.
use Rattle.std.specs.Prelude.{◌≡◌, ℕ, ◌+◌, ◌<◌, List, [], ◌∷◌, ◌++◌, length, take, drop, get_or, Vec}
use Rattle.std.specs.Global.{Global}
use Rattle.spa_format.specs.Tree.{object, property, join_properties}
use Rattle.spa_value.specs.declared.object.Object.{Object, out-Object, roll-Object}
use Rattle.spa_value.specs.declared.object.Property.{Property}
use Rattle.spa_value.specs.View.{view, object_view}
use Rattle.spa_value.specs.Views.{property_views, property_view}

-- the tree of an object has its type, its id and the trees of its properties,
abbrev pub ObjectsHaveTheirFields : Type 0
ObjectsHaveTheirFields =
    (o : Object) →
    object_view o ≡ object (out-Object o).type_ (out-Object o).id (property_views (out-Object o).properties.items)

-- and the tree of an object that is made of a type, an id and properties has these
abbrev pub ObjectsAreMadeOfFields : Type 0
ObjectsAreMadeOfFields =
    (type id : ℕ) (ps : Vec Property Global) →
    object_view (roll-Object (record { type_ = type; id = id; properties = ps })) ≡ object type id (property_views ps.items)

-- the trees of two lists of properties behind one another
abbrev pub PropertyListsAreJoined : Type 0
PropertyListsAreJoined =
    (ps qs : List Property) →
    property_views (ps ++ qs) ≡ join_properties (property_views ps) (property_views qs)

-- the trees of some properties and one more
abbrev pub PropertyListsGrow : Type 0
PropertyListsGrow =
    (ps : List Property) (p : Property) →
    property_views (ps ++ p ∷ []) ≡ join_properties (property_views ps) (property_view p)

-- the trees of the first properties, one more of them
abbrev pub PropertyListsGoOn : Type 0
PropertyListsGoOn =
    (ps : List Property) (i : ℕ) (p : Property) → i < length ps → p ≡ get_or ps i p →
    property_views (take (i + 1) ps) ≡ join_properties (property_views (take i ps)) (property_view p)

-- the trees of properties, cut at one of them
abbrev pub PropertyListsAreCut : Type 0
PropertyListsAreCut =
    (ps : List Property) (i : ℕ) (p : Property) → i < length ps → p ≡ get_or ps i p →
    property_views ps
    ≡ join_properties (property_views (take i ps))
    (property p.key p.flags.0 (view p.value) (property_views (drop (i + 1) ps)))
