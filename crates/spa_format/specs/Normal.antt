-- The normal form of a value, as which its encoding reads back: docs/FORMAT.md, "The normal form".
use Rattle.std.specs.Prelude.{ℕ, List, []}
use Rattle.spa_format.specs.Kind.{Kind, none_kind, Fixed}
use Rattle.spa_format.specs.Tree.{Shape, none_choice, range_choice, step_choice, enum_choice, flags_choice, Tree, fixed, string, bytes, bitmap, array, choice, pointer, struct, object, Trees, no_trees, member, Properties, no_properties, property}

-- the elements of an array that its encoding keeps: none of an array of None, since a None has no bytes
abbrev pub kept_elements : Kind → List Fixed → List Fixed
kept_elements none_kind xs = []
kept_elements _ xs = xs

-- the flags of a choice that a reader keeps: 0 for a None choice
abbrev pub kept_flags : Shape → ℕ → ℕ
kept_flags none_choice f = 0
kept_flags range_choice f = f
kept_flags step_choice f = f
kept_flags enum_choice f = f
kept_flags flags_choice f = f

-- the value with flags 0 in each None choice and no elements in each array of None, at every nesting depth
abbrev mutual
  pub normal_of : Tree → Tree
  normal_of (fixed x) = fixed x
  normal_of (string s) = string s
  normal_of (bytes s) = bytes s
  normal_of (bitmap s) = bitmap s
  normal_of (array k xs) = array k (kept_elements k xs)
  normal_of (choice s f k x xs) = choice s (kept_flags s f) k x xs
  normal_of (pointer t a) = pointer t a
  normal_of (struct vs) = struct (normal_members vs)
  normal_of (object t i ps) = object t i (normal_properties ps)

  pub normal_members : Trees → Trees
  normal_members no_trees = no_trees
  normal_members (member v vs) = member (normal_of v) (normal_members vs)

  pub normal_properties : Properties → Properties
  normal_properties no_properties = no_properties
  normal_properties (property key flags v ps) = property key flags (normal_of v) (normal_properties ps)
