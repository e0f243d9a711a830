-- A property of the object in which two objects meet.
use Rattle.std.specs.Prelude.{◌≡◌, ℕ, List, ◌++◌}
use Rattle.spa_format.specs.Encoding.{encoding_of}
use Rattle.spa_format.specs.Typed.{IsTyped}
use Rattle.spa_format.specs.Words.{word_bytes}
use Rattle.spa_format.specs.Writable.{IsWritable}
use Rattle.spa_format.specs.Tree.{Tree}
use Rattle.spa_keyed_objects.specs.CanonicalPods.{IsCanonicalPod}
use Rattle.spa_negotiate.specs.Admits.{AreSupported, IsCommon, IsPlain}

-- a property with this key, no flags and this plain value was appended, canonical
pub record IsPut (key : ℕ) (value : Tree) (old new : List ℕ) : Type 0 where
  pub plain : IsPlain value
  pub pod : List ℕ
  pub written : IsCanonicalPod value pod
  pub parts : new ≡ old ++ ((word_bytes key ++ word_bytes 0) ++ pod)

-- the two values are supported, and a property with a plain value that both admit was appended
pub record IsCommonPut (ours theirs : Tree) (key : ℕ) (old new : List ℕ) : Type 0 where
  pub value : Tree
  pub supported : AreSupported ours theirs
  pub common : IsCommon ours theirs value
  pub put : IsPut key value old new

-- the two values are supported, and a property with the encoding of a plain value that both admit was appended
pub record IsCommonEncoded (ours theirs : Tree) (key : ℕ) (old new : List ℕ) : Type 0 where
  pub value : Tree
  pub plain : IsPlain value
  pub supported : AreSupported ours theirs
  pub common : IsCommon ours theirs value
  pub typed : IsTyped value
  pub writable : IsWritable value
  pub parts : new ≡ old ++ ((word_bytes key ++ word_bytes 0) ++ encoding_of value)
