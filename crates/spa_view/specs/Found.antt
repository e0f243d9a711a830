-- The answer of a search for a key: docs/FORMAT.md, "Walks over views".
use Rattle.std.specs.Prelude.{◌≡◌, ℕ, List, drop, Option, None, Some, MatchOption, IsSomeAnd, if◌then◌else◌, nat_eq}
use Rattle.spa_view.specs.declared.props.PodProp.{PodProp}
use Rattle.spa_view.specs.View.{prop_bytes}
use Rattle.spa_format.specs.Words.{header_size}
use Rattle.spa_format.specs.Tree.{Tree, Properties, no_properties, property}
use Rattle.spa_format.specs.Walk.{first_with_key, property_walk, properties_of}
use Rattle.spa_view.specs.Settled.{Says, settled_bytes, settled_of}

-- the answer is the first of these properties with the key, or None where no property has it
abbrev pub IsFirst : ℕ → List (List ℕ) → Option PodProp → Type 0
IsFirst key ps found = MatchOption found (first_with_key key ps ≡ None) (λ p. first_with_key key ps ≡ Some (prop_bytes p))

-- the first property with this key, in an object's bytes
abbrev pub property_at : ℕ → List ℕ → Option (List ℕ)
property_at key object = first_with_key key (property_walk (properties_of object))

-- the value of the first property with this key; None where no property has it
abbrev pub first_value : ℕ → Properties → Option Tree
first_value key no_properties = None
first_value key (property k f v ps) = if nat_eq k key then Some v else first_value key ps

-- in an object's bytes the first property with the key has this value, as itself or as a None choice of it
abbrev pub StandsUnder : ℕ → Tree → List ℕ → Type 0
StandsUnder key v object = IsSomeAnd (property_at key object) (λ p. Says v (settled_bytes (drop header_size p)))

-- the first of these properties with the key has this value, or a None choice of it
abbrev pub IsSettledUnder : ℕ → Tree → Properties → Type 0
IsSettledUnder key v ps = IsSomeAnd (first_value key ps) (λ w. settled_of w ≡ v)
