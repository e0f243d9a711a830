-- An object that is written property by property.
use Rattle.std.specs.Prelude.{◌≡◌, ◌⊎◌, ℕ, ◌-◌, ◌<◌, ◌≤◌, List, ◌++◌, drop, length, true, false, MatchBool, Option}
use Rattle.spa_format.specs.Words.{size_limit, word_bytes}
use Rattle.spa_format.specs.Tree.{Tree, Properties}
use Rattle.spa_format.specs.Writable.{IsTooLarge, SomeValueTooLarge}
use Rattle.spa_keyed_objects.specs.CanonicalPods.{IsCanonicalPod}
use Rattle.spa_keyed_objects.specs.Keys.{HoldsAtKeys, Offered}
use Rattle.spa_object_view.specs.Written.{AreBehind}
use Rattle.spa_object_view.specs.declared.answer.Answer.{Answer}

-- a property with this key, these flags and this value was appended, canonical
pub record IsPutBehind (key flags : ℕ) (value : Tree) (old new : Answer) : Type 0 where
  pub small : old.is_large ≡ false
  pub pod : List ℕ
  pub fits : flags < size_limit
  pub written : IsCanonicalPod value pod
  pub parts : new.bytes.items ≡ old.bytes.items ++ ((word_bytes key ++ word_bytes flags) ++ pod)

-- such a property was appended, or the object is too large, for this value or for one before it
abbrev pub IsPutAs : ℕ → ℕ → Tree → (old new : Answer) → Type 0
IsPutAs key flags value old new =
    MatchBool new.is_large ((old.is_large ≡ true) ⊎ IsTooLarge value) (IsPutBehind key flags value old new)

-- a property with this key was appended, with flags and a value of which the relation holds, of what the two sides offer
pub record IsPutBy (Holds : Option Offered → Option Offered → ℕ → Tree → Type 0) (ours theirs : Option Offered)
    (key : ℕ) (old new : Answer) : Type 0 where
  pub flags : ℕ
  pub value : Tree
  pub holds : Holds ours theirs flags value
  pub put : IsPutAs key flags value old new

-- behind `head` are canonical properties for the keys of these, of each of which the relation holds; or they can't be written
pub record AreMetBehind (Holds : Option Offered → Option Offered → ℕ → Tree → Type 0) (ours theirs these : Properties)
    (head : List ℕ) (out : Answer) : Type 0 where
  pub met : Properties
  pub holds : HoldsAtKeys Holds ours theirs these met
  pub held : MatchBool out.is_large (SomeValueTooLarge met) (AreBehind met head out.bytes.items)

-- the bytes of an object that has all its properties
pub record IsEnded (out : Answer) (bytes : List ℕ) : Type 0 where
  pub small : out.is_large ≡ false
  pub size : length out.bytes.items - 8 < size_limit
  pub parts : bytes ≡ word_bytes (length out.bytes.items - 8) ++ drop 4 out.bytes.items

-- an object that has all its properties can't be written
abbrev pub IsUnended : Answer → Type 0
IsUnended out = MatchBool out.is_large (Unit {0}) (16 ≤ length out.bytes.items → size_limit ≤ length out.bytes.items - 8)
