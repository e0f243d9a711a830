-- Values whose encodings' lengths are computed before they are written, and what a sink takes of them: docs/FORMAT.md, "The encoding of a value".
use Rattle.std.specs.Prelude.{◌≡◌, ◌⊎◌, ℕ, ◌<◌, ◌≤◌, List, get_or, length}
use Rattle.spa_sink.specs.declared.gen_error.GenError.{GenError}
use Rattle.spa_sink.specs.Writing.{RefusesWrite, Sent}
use Rattle.spa_format.specs.Words.{size_limit}
use Rattle.spa_format.specs.Tree.{Tree, struct, Trees, Properties}
use Rattle.spa_format.specs.Encoding.{encoding_of, member_encodings, property_encodings}
use Rattle.spa_format.specs.Typed.{AllTyped, AllPropertiesTyped}
use Rattle.spa_format.specs.Writable.{HasNul, IsTooLarge, IsWritable, SomeValueHasNul, SomeValueTooLarge}
use Rattle.spa_value.specs.declared.value.Value.{Value}
use Rattle.spa_value.specs.View.{view}
use Rattle.spa_bodies.specs.Written.{Appending}

-- the value can be written, and its encoding has `n` bytes
pub record IsMeasured (v : Tree) (n : ℕ) : Type 0 where
  pub size : n ≡ length (encoding_of v)
  pub writable : IsWritable v

-- a struct of these members can be written, and the encodings of the members have `n` bytes
pub record AreMeasured (vs : Trees) (n : ℕ) : Type 0 where
  pub size : n ≡ length (member_encodings vs)
  pub short : n < size_limit
  pub writable : IsWritable (struct vs)

-- each of these values can be written, and its encoding has 16 bytes
abbrev pub AreShort : List Value → Type 0
AreShort vs = (i : ℕ) (v : Value) → i < length vs → v ≡ get_or vs i v → IsMeasured (view v) 16

-- the values of these properties can be written, and the properties' bytes are fewer than a size word can't count
pub record PropertiesAreWritable (ps : Properties) : Type 0 where
  pub short : length (property_encodings ps) < size_limit
  pub no_nul : ¬ (SomeValueHasNul ps)
  pub fits : ¬ (SomeValueTooLarge ps)

-- these properties can be written, and have `n` bytes, with their keys and flags
pub record PropertiesAreMeasured (ps : Properties) (n : ℕ) : Type 0 where
  pub size : n ≡ length (property_encodings ps)
  pub writable : PropertiesAreWritable ps

-- a sink took the encodings of these members, one after another
pub record ArePut {S : Type 0} (appends : Appending S) (old : S) (vs : Trees) (new : S) : Type 0 where
  pub encodings : Sent appends old (member_encodings vs) new
  pub typed : AllTyped vs

-- a sink took these properties, one after another, each with its key and flags
pub record ArePropertiesPut {S : Type 0} (appends : Appending S) (old : S) (ps : Properties) (new : S) : Type 0 where
  pub encodings : Sent appends old (property_encodings ps) new
  pub typed : AllPropertiesTyped ps

-- a size word of these properties is past 32 bits, or of the object that they are in
abbrev pub PropertiesAreTooLarge : Properties → Type 0
PropertiesAreTooLarge ps = (size_limit ≤ length (property_encodings ps)) ⊎ SomeValueTooLarge ps

-- why a value can't be written: a text in it holds NUL, or a size doesn't fit a word of 32 bits
abbrev pub RefusesTree : Tree → GenError → Type 0
RefusesTree v = RefusesWrite (HasNul v) (IsTooLarge v) (λ _. ⊥)
