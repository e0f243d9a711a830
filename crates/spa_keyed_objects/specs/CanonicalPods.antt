-- A value's canonical pod: docs/FORMAT.md, "The encoding of a value".
use Rattle.std.specs.Prelude.{◌≡◌, ℕ, List}
use Rattle.spa_format.specs.Tree.{Tree}
use Rattle.spa_format.specs.Pod.{IsPod}
use Rattle.spa_format.specs.Encoding.{encoding_of}

-- these bytes are a pod of the value, and its canonical encoding
pub record IsCanonicalPod (value : Tree) (pod : List ℕ) : Type 0 where
  pub its_pod : IsPod pod value
  pub same : pod ≡ encoding_of value
