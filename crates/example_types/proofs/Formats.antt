-- How deep a format's object nests.
use Rattle.std.proofs.Common.{◌≡◌, ℕ, ℤ, ◌+◌, ◌≤◌, List, Option, Some, None, arith}
use Rattle.std.specs.Prelude.{max}
use Rattle.libspa.specs.DeepValues.{levels_without_memory}
use Rattle.libspa.specs.Depth.{depth_of}
use Rattle.libspa.specs.Kind.{Fixed, id_kind, int}
use Rattle.libspa.specs.Listed.{optional_property}
use Rattle.libspa.specs.Tree.{Tree, array, fixed, no_properties, object, property}

-- an object of these five properties, of which the third may be missing, and the last one's value nests by one level
pub format_shallow : (t i j k l m n : ℕ) (a b : Fixed) (o : Option ℤ) (xs : List Fixed) (last : Tree) → depth_of last ≡ 1 →
    depth_of (object t i
    (property j 0 (fixed a)
    (property k 0 (fixed b)
    (optional_property l (λ z. fixed (int z)) o (property m 0 (array id_kind xs) (property n 0 last no_properties)))))) ≤ levels_without_memory
format_shallow t i j k l m n a b None xs last one =
    let g : 1 + max 0 (max 0 (max 0 (max (depth_of last) 0))) ≤ 512 = omega (arith, one) in
    g
format_shallow t i j k l m n a b (Some z) xs last one =
    let g : 1 + max 0 (max 0 (max 0 (max 0 (max (depth_of last) 0)))) ≤ 512 = omega (arith, one) in
    g
