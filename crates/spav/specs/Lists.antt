-- Lists of pods in the caller's memory: docs/CAPI.md, "Rewriting".
use Rattle.std.specs.Prelude.{⊤, ◌≡◌, ◌<◌, ◌++◌, ℕ, List, length, take, drop}
use Rattle.spa_format.specs.Encoding.{member_encodings}
use Rattle.spa_format.specs.Tree.{Trees}
use Rattle.spa_fixed_sized.specs.declared.fault.DeserializeError.{DeserializeError}
use Rattle.spa_fixed_sized.specs.declared.fault.DeserializeError.TheVariants.{OutOfMemory}

-- these are `count` bytes, and the output begins with them
pub record BeginsAs (bytes : List ℕ) (count : ℕ) (out : List ℕ) : Type 0 where
  pub counted : count ≡ length bytes
  pub front : take count out ≡ bytes

-- these are `count` bytes, the front of the output became them, and the output is unchanged behind them
pub record IsWritten (bytes : List ℕ) (count : ℕ) (old new : List ℕ) : Type 0 where
  pub counted : count ≡ length bytes
  pub front : new ≡ bytes ++ drop count old

-- the input is the pods of values one after another, or conveys them, and the output begins with their encodings, which have `count` bytes
pub record ListIsWritten (AreOf : Trees → List ℕ → Type 0) (input : List ℕ) (count : ℕ) (out : List ℕ) : Type 0 where
  pub values : Trees
  pub members : AreOf values input
  pub written : BeginsAs (member_encodings values) count out

-- the input is the pods of values one after another, or conveys them, whose encodings have `count` bytes, and the output has fewer
pub record ListLacksRoom (AreOf : Trees → List ℕ → Type 0) (input : List ℕ) (count : ℕ) (out : List ℕ) : Type 0 where
  pub values : Trees
  pub members : AreOf values input
  pub counted : count ≡ length (member_encodings values)
  pub short : length out < count

-- The input isn't the pods of values one after another, or doesn't convey them: zero or more are before the byte `at`, and none at it.
pub record ListIsRefused (AreOf : Trees → List ℕ → Type 0) (IsNone : List ℕ → Type 0) (input : List ℕ) (at : ℕ) : Type 0 where
  pub first : Trees
  pub before : AreOf first (take at input)
  pub inside : at < length input
  pub refused : IsNone (drop at input)
  pub whole : (values : Trees) → ¬ (AreOf values input)

-- the refusal is for a fault of the bytes, and not for want of memory
abbrev pub IsForBytes : {I : Type 0} → DeserializeError I → Type 0
IsForBytes OutOfMemory = ⊥
IsForBytes _ = ⊤
