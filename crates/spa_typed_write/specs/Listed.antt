-- Properties that may be missing: docs/FORMAT.md, "The encoding of a value".
use Rattle.std.specs.Prelude.{ℕ, Option, Some, None}
use Rattle.spa_format.specs.Tree.{Tree, Properties, property}

-- these properties, with one more at the front that has this key and no flags, where there is a value for it
abbrev pub optional_property : {X : Type 0} → ℕ → (X → Tree) → Option X → Properties → Properties
optional_property key value None ps = ps
optional_property key value (Some x) ps = property key 0 (value x) ps
