-- What is written of an input block by block: docs/PROVED.md, "The programs".
use Rattle.std.specs.Prelude.{◌≡◌, ◌≢◌, ◌≤◌, ◌+◌, ◌⊎◌, ⊤, ℕ, List, [], ◌++◌, Decides, Option, length, take}
use Rattle.std.specs.Io.KnownBytes.{Appends, Keeps}
use Rattle.spa_device.specs.Whole.{IsAllOf}
use Rattle.spa_format.specs.Front.{HasFront}
use Rattle.spa_format.specs.Walk.{walk}
use Rattle.spa_pod_commands.specs.Answers.{Writes}
use Rattle.spa_recordings.specs.Blocks.{AreWhole}
use Rattle.spa_recordings.specs.GoingOn.{MakesOf}
use Rattle.spa_recordings.specs.Reading.{IsAccepted, IsNothing, ReadsAs}
use Rattle.spa_recordings.specs.declared.reading.Reading.{Reading}
use Rattle.spa_recordings.specs.declared.reading.Reading.TheVariants.{Exact, Lenient}
use Rattle.spa_recordings.specs.declared.streaming.Before.{Before}
use Rattle.spa_recordings.specs.declared.streaming.Made.{Made}
use Rattle.spa_recordings.specs.declared.streaming.Written.{Written}
use Rattle.spa_recordings.specs.declared.streaming.Stop.{Stop}
use Rattle.spa_recordings.specs.declared.streaming.Stop.TheVariants.{Pod, OutOfMemory, ReadFailed, WriteFailed}
use Rattle.spa_recordings.specs.declared.streaming.Found.{Found}
use Rattle.spa_recordings.specs.declared.streaming.NotMade.{NotMade}
use Rattle.spa_recordings.specs.declared.streaming.NotMade.TheVariants as not_made

-- this is made of the pods as which an input is read; so many of them are refused
abbrev pub MakesAs : Reading → (Makes : List ℕ → List ℕ → ℕ → Type 0) → (input out : List ℕ) → (refused : ℕ) → Type 0
MakesAs reading Makes input out refused = MakesOf reading (λ pods made. Makes pods made refused) input out

-- A pod that isn't read ends the work: always in the lenient reading, in which nothing is made of it, and exactly where nothing is.
abbrev pub MayStop : Reading → (Refuses : Type 0) → Type 0
MayStop Exact Refuses = Refuses
MayStop Lenient Refuses = ⊤

-- these bytes are made of pods, and this is answered of them: how many pods are refused, and whether the bytes are none
abbrev pub IsMade : (Makes : List ℕ → List ℕ → ℕ → Type 0) → (pods out : List ℕ) → Made → Type 0
IsMade Makes pods out made = Makes pods out made.refused × Decides made.nothing (out ≡ [])

-- the input was read whole, and what is made of it was written
abbrev pub Streams : (Makes : List ℕ → List ℕ → ℕ → Type 0) → (remaining old new : Option (List ℕ)) → Made → Type 0
Streams Makes remaining old new made = Writes (λ input out. IsMade Makes input out made) remaining old new

-- No pod is read at the front of what is left of an input, nor of what was read of that: this has the whole front, if such pods end the work, or is all of
-- it and no whole pod.
pub record IsRefusedAhead (reading : Reading) (Refuses : Type 0) (left read : List ℕ) : Type 0 where
  pub some : left ≢ []
  pub refused : IsNothing reading left
  pub unread : List ℕ
  pub parts : left ≡ read ++ unread
  pub enough : (HasFront read × Refuses) ⊎ (¬ (HasFront read) × (unread ≡ []))
  pub no_pod : IsNothing reading read

-- these bytes are made of some first pods of an input, or of none, and this is left behind them
pub record MakesFirst (Makes : List ℕ → List ℕ → ℕ → Type 0) (input out left : List ℕ) : Type 0 where
  pub first : List ℕ
  pub parts : input ≡ first ++ left
  pub refused : ℕ
  pub made : Makes first out refused

-- The pod of this number, which begins at this byte with what was read of it, isn't read: of those before, these bytes are made.
pub record EndsAtPod (reading : Reading) (Refuses : Type 0) (Makes : List ℕ → List ℕ → ℕ → Type 0) (input out : List ℕ) (number place : ℕ)
    (read : List ℕ) : Type 0 where
  pub left : List ℕ
  pub made : MakesFirst Makes input out left
  pub its_place : place ≡ length made.first
  pub its_number : number ≡ length (walk made.first) + 1
  pub ahead : IsRefusedAhead reading Refuses left read

-- why work on an input ends before that does, and what was made of it till then
abbrev pub EndsBehind : Reading → (Refuses : Type 0) → (Makes : List ℕ → List ℕ → ℕ → Type 0) → (input out : List ℕ) → Stop → Type 0
EndsBehind reading Refuses Makes input out (Pod number place read) = EndsAtPod reading Refuses Makes input out number place read.items
EndsBehind reading Refuses Makes input out OutOfMemory = (left : List ℕ) × MakesFirst Makes input out left
EndsBehind reading Refuses Makes input out ReadFailed = (left : List ℕ) × MakesFirst Makes input out left
EndsBehind reading Refuses Makes input out WriteFailed = (left : List ℕ) × MakesFirst Makes input out left

-- these bytes were written, or where a write failed, of which there are some, so many first ones of them
abbrev pub IsWrittenUnless : Stop → (old new : Option (List ℕ)) → (out : List ℕ) → Type 0
IsWrittenUnless WriteFailed old new out = (out ≢ []) × (n : ℕ) × Appends old new (take n out)
IsWrittenUnless (Pod number place read) old new out = Appends old new out
IsWrittenUnless OutOfMemory old new out = Appends old new out
IsWrittenUnless ReadFailed old new out = Appends old new out

-- the work on an input, of which maybe not all was read, ended for this reason, and what was made of it till then was written
pub record Stops (reading : Reading) (Refuses : Type 0) (Makes : List ℕ → List ℕ → ℕ → Type 0) (remaining old new : Option (List ℕ)) (why : Stop) :
    Type 0 where
  pub input : List ℕ
  pub its : IsAllOf remaining input
  pub out : List ℕ
  pub ends : EndsBehind reading Refuses Makes input out why
  pub written : IsWrittenUnless why old new out

-- ---- Blocks

-- what is made of a block was written
pub record WritesMade (Makes : List ℕ → List ℕ → ℕ → Type 0) (block : List ℕ) (old new : Option (List ℕ)) (its : Made) : Type 0 where
  pub out : List ℕ
  pub made : Makes block out its.refused
  pub nothing : Decides its.nothing (out ≡ [])
  pub written : Appends old new out
  pub few : its.refused ≤ length block

-- so many first bytes of what is made of a block, which is something, were written
abbrev pub BeginsMade : (Makes : List ℕ → List ℕ → ℕ → Type 0) → (block : List ℕ) → (old new : Option (List ℕ)) → Type 0
BeginsMade Makes block old new =
    (out : List ℕ) × (refused : ℕ) × Makes block out refused × (out ≢ []) × (n : ℕ) × Appends old new (take n out)

-- nothing was made of a block, which is as it was, if refused pods are refused, or for want of memory; or a write failed
abbrev pub IsNotMade : (Refuses : Type 0) → (Makes : List ℕ → List ℕ → ℕ → Type 0) → (block after : List ℕ) → (old new : Option (List ℕ)) → NotMade → Type 0
IsNotMade Refuses Makes block after old new not_made.Refused = Refuses × (after ≡ block) × Keeps old new
IsNotMade Refuses Makes block after old new not_made.OutOfMemory = Keeps old new
IsNotMade Refuses Makes block after old new not_made.Unwritten = BeginsMade Makes block old new

-- ---- Steps. Only private clauses cite them.

-- These are the pods as which a block is read. They are as many as it has, no longer, and whole if it is whole pods.
pub record AreRead (reading : Reading) (block pods : List ℕ) : Type 0 where
  pub read : ReadsAs reading block pods
  pub within : length pods ≤ length block
  pub whole : AreWhole block → AreWhole pods
  pub counted : length (walk pods) ≡ length (walk block)

-- what is made of the pods as which a block is read was written
pub record WritesRead (reading : Reading) (Makes : List ℕ → List ℕ → ℕ → Type 0) (block : List ℕ) (old new : Option (List ℕ)) (written : Written) :
    Type 0 where
  pub pods : List ℕ
  pub read : AreRead reading block pods
  pub its_len : written.len ≡ length pods
  pub made : WritesMade Makes pods old new written.made

-- a block isn't read, and is as it was; or memory ran out
abbrev pub IsNotRead : Reading → (block after : List ℕ) → NotMade → Type 0
IsNotRead reading block after not_made.Refused = (reading ≡ Lenient) × (after ≡ block)
IsNotRead reading block after not_made.OutOfMemory = ⊤
IsNotRead reading block after not_made.Unwritten = ⊥

-- behind some first pods of a block, which are read, stands one that isn't, with these bytes
pub record IsFound (reading : Reading) (block : List ℕ) (found : Found) : Type 0 where
  pub first : List ℕ
  pub left : List ℕ
  pub parts : block ≡ first ++ left
  pub accepted : IsAccepted reading first
  pub some : left ≢ []
  pub no_pod : IsNothing reading left
  pub count : found.before ≡ length (walk first)
  pub place : found.at ≡ length first
  pub its_bytes : found.read.items ≡ left

-- behind some first pods of a block stands one that isn't read, and what is made of them was written; so much is passed before the block
pub record StopsAtPod (reading : Reading) (Refuses : Type 0) (Makes : List ℕ → List ℕ → ℕ → Type 0) (before : Before) (block : List ℕ)
    (old new : Option (List ℕ)) (number at : ℕ) (read : List ℕ) : Type 0 where
  pub refuses : Refuses
  pub first : List ℕ
  pub left : List ℕ
  pub parts : block ≡ first ++ left
  pub accepted : IsAccepted reading first
  pub some : left ≢ []
  pub no_pod : IsNothing reading left
  pub its_number : number ≡ before.count + length (walk first) + 1
  pub its_place : at ≡ before.place + length first
  pub its_bytes : read ≡ left
  pub its : Made
  pub written : WritesMade Makes first old new its

-- so many first bytes of what is made of some first pods of a block, which is something, were written
abbrev pub BeginsBlock : (Makes : List ℕ → List ℕ → ℕ → Type 0) → (block : List ℕ) → (old new : Option (List ℕ)) → Type 0
BeginsBlock Makes block old new =
    (left : List ℕ) × (out : List ℕ) × MakesFirst Makes block out left × (out ≢ []) × (n : ℕ) × Appends old new (take n out)

-- why not all of a block is worked on, and what was written
abbrev pub StopsInBlock : Reading → (Refuses : Type 0) → (Makes : List ℕ → List ℕ → ℕ → Type 0) → Before → (block : List ℕ) → (old new : Option (List ℕ)) →
    Stop → Type 0
StopsInBlock reading Refuses Makes before block old new (Pod number at read) =
    StopsAtPod reading Refuses Makes before block old new number at read.items
StopsInBlock reading Refuses Makes before block old new OutOfMemory = Keeps old new
StopsInBlock reading Refuses Makes before block old new ReadFailed = ⊥
StopsInBlock reading Refuses Makes before block old new WriteFailed = BeginsBlock Makes block old new

-- why work on an input ends behind what is passed, where these bytes are held that are no whole pod
abbrev pub IsEnded : Before → (held : List ℕ) → Stop → Type 0
IsEnded before held (Pod number at read) = (number ≡ before.count + 1) × (at ≡ before.place) × (read.items ≡ held) × (held ≢ [])
IsEnded before held OutOfMemory = ⊤
IsEnded before held ReadFailed = ⊥
IsEnded before held WriteFailed = ⊥
