-- How an input is read block by block. Only private clauses cite this.
use Rattle.std.specs.Prelude.{◌≡◌, ◌≤◌, ◌⊎◌, ℕ, List, [], ◌++◌, Option, length, take}
use Rattle.std.specs.Io.KnownBytes.{Consumes}
use Rattle.spa_format.specs.Front.{HasFront, rest_of}
use Rattle.spa_format.specs.Walk.{walk}
use Rattle.spa_recordings.specs.declared.blocks.Blocks.{Blocks}
use Rattle.spa_recordings.specs.declared.blocks.Whole.{Whole}
use Rattle.spa_recordings.specs.declared.streaming.Stop.{Stop}
use Rattle.spa_recordings.specs.declared.streaming.Stop.TheVariants.{OutOfMemory, ReadFailed}

-- the bytes that are held
abbrev pub ahead : Blocks → List ℕ
ahead blocks = take blocks.held blocks.buffer.items

-- whole pods one after another, accepted or not
pub data AreWhole : List ℕ → Type 0 where
  no_pods : AreWhole []
  one_more : (b : List ℕ) → HasFront b → AreWhole (rest_of b) → AreWhole b

-- these are the whole pods that are held first
pub record AreWholeAhead (blocks : Blocks) (found : Whole) : Type 0 where
  pub within : found.len ≤ blocks.held
  pub whole : AreWhole (take found.len (ahead blocks))
  pub count : found.count ≡ length (walk (take found.len (ahead blocks)))

-- some bytes of an input, or none, were read and are held behind the others
abbrev pub ReadsOn : (remaining now : Option (List ℕ)) → (before after : List ℕ) → Type 0
ReadsOn remaining now before after = (more : List ℕ) × Consumes remaining now more × (after ≡ before ++ more)

-- why reading fails
abbrev pub IsReadFailure : Stop → Type 0
IsReadFailure why = (why ≡ OutOfMemory) ⊎ (why ≡ ReadFailed)
