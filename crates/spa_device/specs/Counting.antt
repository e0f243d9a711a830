-- How many of the bytes that it is handed a device takes: docs/FORMAT.md, "Values that can be written".
use Rattle.std.specs.Prelude.{◌≡◌, ℕ, ◌+◌, ◌^◌, ◌<◌, ◌≤◌, ◌⊎◌, List, [], length, take, drop, Option, Some, None, Bool, true, false}
use Rattle.std.specs.Io.KnownBytes.{Appends, Keeps}
use Rattle.spa_sink.specs.declared.gen_error.GenError.{GenError}
use Rattle.spa_sink.specs.declared.gen_error.GenError.TheVariants.{Io, Failed}

-- a device, how many bytes it took, and how many of its writes failed
pub record Counted (W : Type 0) : Type 0 where
  pub device : W
  pub written : ℕ
  pub failures : ℕ

-- the device took these bytes, behind those that it had where they are known, and each was counted
pub record Took {W : Type 0} (contents : W → Option (List ℕ)) (old : Counted W) (bytes : List ℕ)
    (new : Counted W) : Type 0 where
  pub counted : new.written ≡ old.written + length bytes
  pub grew : old.failures ≤ new.failures
  pub known : Appends (contents old.device) (contents new.device) bytes

-- the effect of one write of these bytes: the device took this many of them, or it failed and took none
abbrev pub Attempted : Option (List ℕ) → Option (List ℕ) → List ℕ → Option ℕ → Type 0
Attempted old new bytes None = Keeps old new
Attempted old new bytes (Some n) = (0 < n) × (n ≤ length bytes) × Appends old new (take n bytes)

-- Writes, each of the bytes that the one before left over: each took one byte or more, until all were taken or one failed, which was
-- the last. The number is that of the bytes that were taken in all.
pub data Handed {D : Type 0} (attempts : D → List ℕ → Option ℕ → D → Type 0) (last : D) (failed : Bool) : ℕ → D → List ℕ → Type 0 where
  all_taken : failed ≡ false → Handed attempts last failed 0 last []
  one_failed : (old : D) (bytes : List ℕ) → failed ≡ true → attempts old bytes None last → Handed attempts last failed 0 old bytes
  some_taken : (old next : D) (bytes : List ℕ) (n more : ℕ) → attempts old bytes (Some n) next →
      Handed attempts last failed more next (drop n bytes) → Handed attempts last failed (n + more) old bytes

-- the least number that a count can't hold
abbrev pub count_limit : ℕ
count_limit = 2 ^ 64

-- `n` bytes are refused: a write failed, or a count would overflow
abbrev pub RefusesBytes : {W : Type 0} → Counted W → ℕ → Counted W → GenError → Type 0
RefusesBytes old n new e =
    ((e ≡ Io) × (old.failures < new.failures)) ⊎
    ((e ≡ Failed) × ((count_limit ≤ old.written + n) ⊎ (count_limit ≤ new.failures + 1)))
