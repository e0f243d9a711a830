-- The value tree, which is what a pod says without the bytes that say it: docs/FORMAT.md, "Values".
use Rattle.std.specs.Prelude.{ℕ, ◌+◌, List}
use Rattle.spa_format.specs.Kind.{Kind, Fixed, kind_of, type_number}

-- the shapes of choices: which values a choice admits
pub data Shape : Type 0 where
  none_choice : Shape
  range_choice : Shape
  step_choice : Shape
  enum_choice : Shape
  flags_choice : Shape

-- the shape word of a choice of this shape
abbrev pub shape_number : Shape → ℕ
shape_number none_choice = 0
shape_number range_choice = 1
shape_number step_choice = 2
shape_number enum_choice = 3
shape_number flags_choice = 4

mutual
  pub data Tree : Type 0 where
    fixed : Fixed → Tree
    string : List ℕ → Tree
    bytes : List ℕ → Tree
    bitmap : List ℕ → Tree
    -- the elements of an array, which are of one kind
    array : Kind → List Fixed → Tree
    -- a default and the values behind it, of one kind: minimum and maximum, then the step; or alternatives; or flags
    choice : (shape : Shape) (flags : ℕ) (kind : Kind) (default : Fixed) (values : List Fixed) → Tree
    pointer : (type address : ℕ) → Tree
    struct : Trees → Tree
    object : (type id : ℕ) → Properties → Tree

  -- the members of a struct, in order
  pub data Trees : Type 0 where
    no_trees : Trees
    member : Tree → Trees → Trees

  -- the properties of an object, in order
  pub data Properties : Type 0 where
    no_properties : Properties
    property : (key flags : ℕ) → Tree → Properties → Properties

-- the type numbers of the values that have no fixed size
abbrev pub string_type : ℕ
string_type = 8

abbrev pub bytes_type : ℕ
bytes_type = 9

abbrev pub bitmap_type : ℕ
bitmap_type = 12

abbrev pub array_type : ℕ
array_type = 13

abbrev pub struct_type : ℕ
struct_type = 14

abbrev pub object_type : ℕ
object_type = 15

abbrev pub pointer_type : ℕ
pointer_type = 17

abbrev pub choice_type : ℕ
choice_type = 19

-- the type number of the value's pod
abbrev pub type_of : Tree → ℕ
type_of (fixed x) = type_number (kind_of x)
type_of (string s) = string_type
type_of (bytes s) = bytes_type
type_of (bitmap s) = bitmap_type
type_of (array k xs) = array_type
type_of (choice s f k x xs) = choice_type
type_of (pointer t a) = pointer_type
type_of (struct vs) = struct_type
type_of (object t i ps) = object_type

-- one list of members behind another
abbrev pub join_members : Trees → Trees → Trees
join_members no_trees ws = ws
join_members (member v vs) ws = member v (join_members vs ws)

abbrev pub join_properties : Properties → Properties → Properties
join_properties no_properties qs = qs
join_properties (property k f v ps) qs = property k f v (join_properties ps qs)

-- how many pods a value's encoding has: its own, and those of its members or of its properties' values, at every nesting depth
abbrev mutual
  pub node_count : Tree → ℕ
  node_count (fixed x) = 1
  node_count (string s) = 1
  node_count (bytes s) = 1
  node_count (bitmap s) = 1
  node_count (array k xs) = 1
  node_count (choice s f k x xs) = 1
  node_count (pointer t a) = 1
  node_count (struct vs) = 1 + member_node_count vs
  node_count (object t i ps) = 1 + property_node_count ps

  pub member_node_count : Trees → ℕ
  member_node_count no_trees = 0
  member_node_count (member v vs) = node_count v + member_node_count vs

  pub property_node_count : Properties → ℕ
  property_node_count no_properties = 0
  property_node_count (property k f v ps) = node_count v + property_node_count ps
