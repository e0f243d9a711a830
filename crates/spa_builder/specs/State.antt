-- The state of a builder: the values that are closed, and the trees that are still open: docs/FORMAT.md, "Making pods call by call".
use Rattle.std.specs.Prelude.{ℕ, List, []}
use Rattle.spa_format.specs.Kind.{Fixed}
use Rattle.spa_format.specs.Tree.{Shape, Tree, Trees, no_trees, member, Properties, no_properties, property, join_members, join_properties}

-- an open tree: a part of it is there
pub data Partial : Type 0 where
  open_struct : Trees → Partial
  open_object : (type id : ℕ) → Properties → Partial
  -- an object in which a key waits for its value
  open_property : (type id : ℕ) → Properties → (key flags : ℕ) → Partial
  open_array : List Fixed → Partial
  open_choice : Shape → (flags : ℕ) → List Fixed → Partial

-- a state: the closed values, and the open trees
pub record State : Type 0 where
  pub closed : Trees
  -- the open trees, the innermost first
  pub opened : List Partial

-- the state of a new builder
abbrev pub start : State
start = record { closed = no_trees; opened = [] }

-- the trees with one more at the end
abbrev pub with_tree : Trees → Tree → Trees
with_tree vs v = join_members vs (member v no_trees)

-- the properties with one more at the end
abbrev pub with_property : Properties → ℕ → ℕ → Tree → Properties
with_property ps k f v = join_properties ps (property k f v no_properties)
