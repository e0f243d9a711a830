-- The containers whose copies are begun, each inside the one around it: docs/FORMAT.md, "Values".
use Rattle.std.specs.Prelude.{◌≡◌, ℕ, ◌+◌, ◌*◌, ◌<◌, ◌≤◌, Bool, true, false, List, [], ◌∷◌, ◌++◌, Option, Some, None, length, sum_by, Vec, vec_len, vec_capacity}
use Rattle.std.specs.Global.{Global}
use Rattle.spa_format.specs.Tree.{Tree, struct, object, member, property, join_members, join_properties, node_count, member_node_count, property_node_count}
use Rattle.spa_value.specs.View.{object_view, view}
use Rattle.spa_value.specs.Views.{views, property_views}
use Rattle.spa_value.specs.declared.object.Property.{Property}
use Rattle.spa_value.specs.declared.value.Value.{Value}
use Rattle.spa_value.specs.declared.nested_copies.Copying.{Copying}
use Rattle.spa_value.specs.declared.nested_copies.Copying.TheVariants as copying
use Rattle.spa_value.specs.declared.nested_copies.CopiedObject.{CopiedObject}
use Rattle.spa_value.specs.declared.nested_copies.Nested.{Nested}
use Rattle.spa_value.specs.declared.nested_copies.Nested.TheVariants as nested
use Rattle.spa_value.specs.declared.nested_copies.Copies.{Copies}

-- the tree of the copies made so far
abbrev pub so_far : Copying → Tree
so_far (copying.Struct s) = struct (views s.copies.items)
so_far (copying.Object o) = object o.type_ o.id (property_views o.copies.items)

-- the tree of an object whose copies made so far are followed by these properties
abbrev pub with_left : CopiedObject → List Property → Tree
with_left o left = object o.type_ o.id (property_views (o.copies.items ++ left))

-- the tree of the container that is copied: the copies made so far, and what is left to copy
abbrev pub whole : Copying → Tree
whole (copying.Struct s) = struct (views (s.copies.items ++ s.left.now))
whole (copying.Object o) = with_left o o.left.now

-- the tree once the member or property at which copying stopped has this value: the copies made so far, that value, and what is left to copy
abbrev pub completed : Copying → Tree → Tree
completed (copying.Struct s) v = struct (join_members (views s.copies.items) (member v (views s.left.now)))
completed (copying.Object o) v =
    object o.type_ o.id (join_properties (property_views o.copies.items) (property o.key o.flags.0 v (property_views o.left.now)))

-- how many values are left to copy in the container
abbrev pub values_left : Copying → ℕ
values_left (copying.Struct s) = member_node_count (views s.left.now)
values_left (copying.Object o) = property_node_count (property_views o.left.now)

-- there is room for one more copy
abbrev pub HasPlace : Copying → Type 0
HasPlace (copying.Struct s) = vec_len s.copies < vec_capacity s.copies
HasPlace (copying.Object o) = vec_len o.copies < vec_capacity o.copies

-- the tree of a container that is to be copied
abbrev pub nested_view : Nested → Tree
nested_view (nested.Struct members) = struct (views members.now.items)
nested_view (nested.Object o) = object_view o.now

-- the copy of a container of this tree is begun
abbrev pub Begins : Tree → Copying → Type 0
Begins v begun = (whole begun ≡ v) × (values_left begun + 1 ≡ node_count v)

-- either the value's copy was put into its place, or the value is the container that is answered, and nothing was put
abbrev pub CopiesLeaf : {T : Type 0} → (T → Tree → T → Type 0) → Value → T → Option Nested → T → Type 0
CopiesLeaf takes v from None to = takes from (view v) to
CopiesLeaf takes v from (Some n) to = (to ≡ from) × (nested_view n ≡ view v)

-- a list of copies took one more, whatever is left to copy behind it
abbrev pub TakesMember : Vec Value Global → Tree → Vec Value Global → Type 0
TakesMember from v to = (left : List Value) → views (to.items ++ left) ≡ join_members (views from.items) (member v (views left))

-- an object whose copy is begun took the value of its next property
abbrev pub TakesProperty : CopiedObject → Tree → CopiedObject → Type 0
TakesProperty from v to = (left : List Property) →
    with_left to left ≡ object from.type_ from.id (join_properties (property_views from.copies.items) (property from.key from.flags.0 v (property_views left)))

-- copies were made up to the end of the container, or up to the next container in it
abbrev pub CopiesOn : Copying → Option Nested → Copying → Type 0
CopiesOn from None to = so_far to ≡ whole from
CopiesOn from (Some n) to =
    (completed to (nested_view n) ≡ whole from) × (values_left to + node_count (nested_view n) ≤ values_left from)

-- the tree of the outermost container once the innermost is this value; the outermost is first in the list
abbrev pub completes : List Copying → Tree → Tree
completes [] v = v
completes (outer ∷ inner) v = completed outer (completes inner v)

-- the tree of the value that is copied
abbrev pub copied : Copies → Tree
copied c = completes c.around.items (whole c.inner)

-- a bound of the steps that are left: each step copies one or more values, or ends the innermost container
abbrev pub steps_left : Copies → ℕ
steps_left c = 2 * (values_left c.inner + sum_by values_left c.around.items) + length c.around.items

-- after a step fewer steps are left for the value that is copied, or the copy of the outermost is whole
abbrev pub Steps : Bool → Copies → Copies → Type 0
Steps true from to = (copied to ≡ copied from) × (steps_left to < steps_left from)
Steps false from to = so_far to.inner ≡ copied from

-- the innermost, whose copy is whole, is put into the one around it, where there is one
abbrev pub Ends : Bool → Copies → Copies → Type 0
Ends true from to = (outer : Copying) × (from.around.items ≡ to.around.items ++ outer ∷ []) × (whole to.inner ≡ completed outer (so_far from.inner)) × (values_left to.inner ≡ values_left outer)
Ends false from to = (from.around.items ≡ []) × (so_far to.inner ≡ so_far from.inner)
