-- What stands in bodies of each type, and behind them.
use Rattle.std.proofs.Common.{◌≡◌, ◌≢◌, ℕ, ◌<◌, List, length, refl, sym, ap, ◌∙◌, arith}
use Rattle.std.specs.Prelude.{Bool, true, false}
use Rattle.spa_format.specs.Words.{header_size}
use Rattle.spa_format.specs.Tree.{Tree, struct, object, Properties, no_properties, property, object_type, struct_type, type_of}
use Rattle.spa_format.specs.Pod.{AreProperties, IsBody}
use Rattle.spa_canonical.specs.Canonical.{AreCanonicalProperties}
use Rattle.spa_canonical.specs.Depth.{depth_of}

pub never : (b : Bool) → b ≡ true → b ≡ false → ⊥
never b t f = let e : true ≡ false = sym t ∙ f in cc

-- canonical properties have a key and flags
pub some_key : (left : List ℕ) → length left < header_size → 0 < length left → ¬ (AreCanonicalProperties left)
some_key left s l a = of_properties a.values a.properties
  where
    of_properties : (ps : Properties) → AreProperties ps left → ⊥
    of_properties no_properties m = let z = ap length m in omega arith
    of_properties (property key flags v ps) m = let r = m.0 in omega arith

-- no struct or object stands in a value of another type
pub leaf_depth : (v : Tree) (body : List ℕ) → type_of v ≢ struct_type → (type_of v ≡ object_type → length body < header_size) → IsBody v body → depth_of v ≡ 0
leaf_depth (struct vs) body n s b = absurd (n refl)
leaf_depth (object t i ps) body n s b = absurd (let l = s refl in let r = b.0 in omega arith)
leaf_depth _ body n s b = refl
