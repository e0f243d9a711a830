-- What is made of an input block by block, where no refused pod ends the work: docs/PROVED.md, "The programs".
use Rattle.std.specs.Prelude.{◌≡◌, ◌≢◌, ◌⊎◌, ℕ, List, [], ◌++◌, Option, length, take}
use Rattle.std.specs.Io.KnownBytes.{Appends, Keeps}
use Rattle.spa_device.specs.Whole.{IsAllOf}
use Rattle.spa_format.specs.Walk.{walk}
use Rattle.spa_recordings.specs.Blocks.{AreWhole}
use Rattle.spa_recordings.specs.declared.passing.Unworked.{Unworked}
use Rattle.spa_recordings.specs.declared.passing.Unworked.TheVariants as unworked
use Rattle.spa_recordings.specs.declared.streaming.Stop.{Stop}
use Rattle.spa_recordings.specs.declared.streaming.Stop.TheVariants.{Pod, OutOfMemory, ReadFailed, WriteFailed}

-- what is made was written; where a write failed, of what is made, which is something, so many first bytes
abbrev pub IsWrittenTill : Stop → (old new : Option (List ℕ)) → (out : List ℕ) → Type 0
IsWrittenTill (Pod number place read) old new out = ⊥
IsWrittenTill OutOfMemory old new out = Appends old new out
IsWrittenTill ReadFailed old new out = Appends old new out
IsWrittenTill WriteFailed old new out = (out ≢ []) × (n : ℕ) × Appends old new (take n out)

module _ {State : Type 0} (Works : State → State → (count place : ℕ) → (block out : List ℕ) → Type 0) where
  -- From one state to another this is made of some first bytes of an input, block by block: each block but the last is whole pods.
  pub data AreBlocks (start : State) : (state : State) → (first out : List ℕ) → Type 0 where
    nothing : AreBlocks start start [] []
    one_more : (state new : State) (first block out made : List ℕ) → AreBlocks start state first out → AreWhole first →
        Works state new (length (walk first)) (length first) block made → AreBlocks start new (first ++ block) (out ++ made)

  -- the input was read whole, and what is made of it was written
  pub record WorksThrough (start end : State) (remaining old new : Option (List ℕ)) : Type 0 where
    pub input : List ℕ
    pub read : IsAllOf remaining input
    pub out : List ℕ
    pub made : AreBlocks start end input out
    pub written : Appends old new out

  -- The work on an input ended before that for this reason, which is no refused pod: behind some first whole pods, or its end. What was made of these was
  -- written, unless a write failed.
  pub record StopsWork (start : State) (remaining old new : Option (List ℕ)) (why : Stop) : Type 0 where
    pub input : List ℕ
    pub its : IsAllOf remaining input
    pub first : List ℕ
    pub left : List ℕ
    pub parts : input ≡ first ++ left
    pub behind : AreWhole first ⊎ (left ≡ [])
    pub state : State
    pub out : List ℕ
    pub made : AreBlocks start state first out
    pub written : IsWrittenTill why old new out

-- of what is made, which is something, so many first bytes were written
abbrev pub IsBegun : (Makes : List ℕ → Type 0) → (old new : Option (List ℕ)) → Type 0
IsBegun Makes old new = (out : List ℕ) × Makes out × (out ≢ []) × (n : ℕ) × Appends old new (take n out)

-- nothing was made of a block, for want of memory; or a write failed
abbrev pub IsUnworked : (Makes : List ℕ → Type 0) → (old new : Option (List ℕ)) → Unworked → Type 0
IsUnworked Makes old new unworked.OutOfMemory = Keeps old new
IsUnworked Makes old new unworked.Unwritten = IsBegun Makes old new

-- why the work on an input ends in a block; only private clauses cite it
abbrev pub StopsAtBlock : (Makes : List ℕ → Type 0) → (old new : Option (List ℕ)) → Stop → Type 0
StopsAtBlock Makes old new (Pod number place read) = ⊥
StopsAtBlock Makes old new OutOfMemory = Keeps old new
StopsAtBlock Makes old new ReadFailed = Keeps old new
StopsAtBlock Makes old new WriteFailed = IsBegun Makes old new
