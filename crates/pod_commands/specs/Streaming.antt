-- What is written of inputs as they come.
use Rattle.std.specs.Prelude.{◌≡◌, ◌≢◌, ◌-◌, ◌⊎◌, ⊤, ℕ, List, [], ◌++◌, Option, None, Some, take}
use Rattle.std.specs.Io.KnownBytes.{Appends}
use Rattle.std.specs.Borrow.{Bor}
use Rattle.spa_device.specs.Whole.{IsAllOf}
use Rattle.spa_format.specs.Front.{HasFront}
use Rattle.spa_format.specs.Pod.{AreMembers}
use Rattle.spa_format.specs.Tree.{Trees}
use Rattle.spa_recordings.specs.Rewritings.{RewritesAll}
use Rattle.spa_recordings.specs.Reading.{IsNothing}
use Rattle.spa_recordings.specs.Streaming.{EndsAtPod, MakesAs, MakesFirst, MayStop}
use Rattle.spa_recordings.specs.Blocks.{AreWhole}
use Rattle.spa_recordings.specs.GoingOn.{EndsBySize, GoesOn}
use Rattle.spa_recordings.specs.declared.going_on.Refused.{Refused}
use Rattle.spa_recordings.specs.declared.going_on.RefusedPod.{RefusedPod}
use Rattle.spa_recordings.specs.declared.reading.Reading.{Reading}
use Rattle.spa_recordings.specs.declared.reading.Reading.TheVariants.{Exact}
use Rattle.spa_recordings.specs.declared.streaming.Stop.{Stop}
use Rattle.spa_recordings.specs.declared.streaming.Stop.TheVariants as stop
use Rattle.spa_refusals.specs.Refusals.{IsRefusalOf}
use Rattle.pod_commands.specs.Colours.{PrintsIn, ShowsIn}
use Rattle.pod_commands.specs.Cut.{ShowsCut}
use Rattle.pod_commands.specs.Inputs.{StopsAt}
use Rattle.spa_refusals.specs.declared.several.NamedRefusal.{NamedRefusal}
use Rattle.pod_commands.specs.Making.{Makes}
use Rattle.pod_commands.specs.Working.{WorksOn}
use Rattle.pod_commands.specs.declared.request.Making.{Making}
use Rattle.pod_commands.specs.declared.request.Making.TheVariants as making
use Rattle.pod_commands.specs.declared.answer.Failure.{Failure}
use Rattle.pod_commands.specs.declared.answer.Failure.TheVariants.{Pods, Texts, Pair, Lists, OutOfMemory, Unread, Unwritten}
use Rattle.pod_commands.specs.declared.request.Printing.{Printing}
use Rattle.pod_commands.specs.declared.request.Streaming.{Streaming}
use Rattle.pod_commands.specs.declared.request.Streaming.TheVariants as streaming

-- what is made of pods and written as they come, which so many pods and bytes of the input stand before; so many of them are refused
abbrev pub WritesOf : Streaming → (count place : ℕ) → (pods out : List ℕ) → (refused : ℕ) → Type 0
WritesOf (streaming.Json style) count place pods out refused = PrintsIn style pods out × (refused ≡ 0)
WritesOf streaming.Rewrite count place pods out refused = RewritesAll pods out refused
WritesOf (streaming.Print printing) count place pods out refused = ShowsIn printing count place pods out refused
WritesOf streaming.Check count place pods out refused = (out ≡ []) × ((vs : Trees) × AreMembers vs pods) × (refused ≡ 0)

-- nothing is made of refused pods, which only what prints parts, or shows pods, passes
abbrev pub MayRefuse : Streaming → Type 0
MayRefuse (streaming.Json style) = ⊤
MayRefuse streaming.Rewrite = ⊤
MayRefuse (streaming.Print printing) = ⊥
MayRefuse streaming.Check = ⊤

-- what is made of an input that is read so
abbrev pub StreamsAs : Reading → Streaming → (input out : List ℕ) → (refused : ℕ) → Type 0
StreamsAs reading s input out refused = MakesAs reading (WritesOf s 0 0) input out refused

-- how parts of inputs that are read exactly are printed, if they are
abbrev pub shown_as : Reading → Streaming → Option Printing
shown_as Exact (streaming.Print printing) = Some printing
shown_as reading s = None

-- what is written of the pod of this number at this byte, of which this was read and at which the work ends: what is shown of it, or nothing
abbrev pub ShowsLast : Option Printing → (number place : ℕ) → (read last : List ℕ) → Type 0
ShowsLast None number place read last = last ≡ []
ShowsLast (Some printing) number place read last = ShowsCut printing (number - 1) place read last

-- the work ends at this pod, and this was made: of those before it, and of itself what is shown of it
pub record EndsShown (reading : Reading) (s : Streaming) (input out : List ℕ) (number place : ℕ) (read : List ℕ) : Type 0 where
  pub made : List ℕ
  pub last : List ℕ
  pub parts : out ≡ made ++ last
  pub ends : EndsAtPod reading (MayStop reading (MayRefuse s)) (StreamsAs reading s) input made number place read
  pub shown : ShowsLast (shown_as reading s) number place read last

-- why the work on an input of this name, read so, ends before that does, and what was made of it till then: of some first pods, and of a last one
abbrev pub EndsIn : Reading → Streaming → (name input out : List ℕ) → Failure → Type 0
EndsIn reading s name input out (Pods n why) =
    (n.now ≡ name) × (read : List ℕ) × EndsShown reading s input out why.number why.place read × IsRefusalOf reading read why
EndsIn reading s name input out (Unread n words) = (left : List ℕ) × MakesFirst (StreamsAs reading s) input out left
EndsIn reading s name input out OutOfMemory = (left : List ℕ) × MakesFirst (StreamsAs reading s) input out left
EndsIn reading s name input out (Unwritten target) =
    (target ≡ None)
    × (((left : List ℕ) × MakesFirst (StreamsAs reading s) input out left)
    ⊎ ((number : ℕ) × (place : ℕ) × (read : List ℕ) × EndsShown reading s input out number place read))
EndsIn reading s name input out _ = ⊥

-- these bytes were written, or where a write failed, of which there are some, so many first ones of them
abbrev pub IsWritten : Failure → (old new : Option (List ℕ)) → (out : List ℕ) → Type 0
IsWritten (Unwritten target) old new out = (out ≢ []) × (n : ℕ) × Appends old new (take n out)
IsWritten (Pods n why) old new out = Appends old new out
IsWritten (Texts n why) old new out = Appends old new out
IsWritten (Pair n why) old new out = Appends old new out
IsWritten (Lists n m why) old new out = Appends old new out
IsWritten OutOfMemory old new out = Appends old new out
IsWritten (Unread n words) old new out = Appends old new out

-- why the work on several inputs ends in one of them, and what was written: what was made of those before it, and of its first pods
abbrev pub IsBroken : Reading → Streaming → (remaining : Option (List ℕ)) → (holds : List ℕ → Option (List ℕ)) → List (Bor (List ℕ)) → (old new : Option (List ℕ)) →
    Failure → Type 0
IsBroken reading s remaining holds names old new why =
    (out : List ℕ) × StopsAt (StreamsAs reading s) (EndsIn reading s) remaining holds names out why × IsWritten why old new out

-- ---- Behind refused pods

-- what is made of an input as it comes, where that is made of each pod: parts of pods are counted over the input
abbrev pub made_as : Streaming → Option Making
made_as (streaming.Json style) = Some (making.Json style)
made_as streaming.Rewrite = Some making.Rewrite
made_as (streaming.Print printing) = None
made_as streaming.Check = Some making.Check

-- this was made of some first whole pods of an input, or of all of it, whose refused pods are left out or kept
pub record MakesFirstInPart (reading : Reading) (refused : Refused) (making : Making) (name input out : List ℕ) : Type 0 where
  pub first : List ℕ
  pub left : List ℕ
  pub parts : input ≡ first ++ left
  pub whole : AreWhole first ⊎ (left ≡ [])
  pub pods : List RefusedPod
  pub made : GoesOn name reading refused (Makes making) 0 0 first out pods

-- why the work on an input of this name ends before that does, and what was made of it till then
abbrev pub EndsInPart : Reading → Refused → Making → (name input out : List ℕ) → Failure → Type 0
EndsInPart reading refused making name input out (Unread n words) = MakesFirstInPart reading refused making name input out
EndsInPart reading refused making name input out OutOfMemory = MakesFirstInPart reading refused making name input out
EndsInPart reading refused making name input out (Unwritten target) = (target ≡ None) × MakesFirstInPart reading refused making name input out
EndsInPart reading refused making name input out _ = ⊥

-- all of an input was worked on
abbrev pub MakesInPart : Reading → Refused → Making → (input out : List ℕ) → Type 0
MakesInPart reading refused making input out = (name : List ℕ) × (pods : List RefusedPod) × GoesOn name reading refused (Makes making) 0 0 input out pods

-- why the work on several inputs ends in one of them, and what was written: what was made of those before it, and of its first pods
abbrev pub IsBrokenInPart : Reading → Refused → Making → (remaining : Option (List ℕ)) → (holds : List ℕ → Option (List ℕ)) → List (Bor (List ℕ)) →
    (old new : Option (List ℕ)) → Failure → Type 0
IsBrokenInPart reading refused making remaining holds names old new why =
    (out : List ℕ)
    × StopsAt (λ input made n. MakesInPart reading refused making input made) (EndsInPart reading refused making) remaining holds names out why
    × IsWritten why old new out

-- ---- Only private clauses cite these.

-- why the work on an input of this name ends before that does, and what was written of it
abbrev pub IsBrokenAt : Reading → Streaming → (name : List ℕ) → (content old new : Option (List ℕ)) → Failure → Type 0
IsBrokenAt reading s name content old new why =
    (input : List ℕ) × (out : List ℕ) × IsAllOf content input × EndsIn reading s name input out why × IsWritten why old new out

-- no pod is read at the front of the bytes of a refused one
abbrev pub HasNoPod : Reading → Stop → Type 0
HasNoPod reading (stop.Pod number place read) = IsNothing reading read.items
HasNoPod reading _ = ⊤

-- the refusal of this pod of the input of this name
abbrev pub IsRefusedAs : Reading → (name : List ℕ) → (number place : ℕ) → (read : List ℕ) → Failure → Type 0
IsRefusedAs reading name number place read (Pods n why) =
    (n.now ≡ name) × (why.number ≡ number) × (why.place ≡ place) × IsRefusalOf reading read why
IsRefusedAs reading name number place read OutOfMemory = ⊤
IsRefusedAs reading name number place read _ = ⊥

-- the failure of the input of this name for this reason
abbrev pub IsFailureOf : Reading → Bor (List ℕ) → Stop → Failure → Type 0
IsFailureOf reading name stop.OutOfMemory why = why ≡ OutOfMemory
IsFailureOf reading name stop.ReadFailed why = (n : Bor (List ℕ)) × (words : Bor (List ℕ)) × (n.now ≡ name.now) × (why ≡ Unread n words)
IsFailureOf reading name stop.WriteFailed why = why ≡ Unwritten None
IsFailureOf reading name (stop.Pod number place read) why = IsRefusedAs reading name.now number place read.items why

-- a last pod that is shown isn't whole
abbrev pub IsCutIn : Option Printing → Stop → Type 0
IsCutIn (Some printing) (stop.Pod number place read) = ¬ (HasFront read.items)
IsCutIn shown why = ⊤

-- what is there of the last pod was written, and this is said of it
abbrev pub IsLastShown : Printing → Reading → (name : List ℕ) → (number place : ℕ) → (read : List ℕ) → (old new : Option (List ℕ)) → Failure → Type 0
IsLastShown printing reading name number place read old new (Pods n why) =
    IsRefusedAs reading name number place read (Pods n why) × ((last : List ℕ) × ShowsCut printing (number - 1) place read last × Appends old new last)
IsLastShown printing reading name number place read old new (Unwritten target) =
    (target ≡ None) × (last : List ℕ) × ShowsCut printing (number - 1) place read last × IsWritten (Unwritten target) old new last
IsLastShown printing reading name number place read old new OutOfMemory = Appends old new []
IsLastShown printing reading name number place read old new _ = ⊥

-- the failure of the input of this name for this reason, and what was written of a last pod that is shown
abbrev pub IsEndOf : Option Printing → Reading → Bor (List ℕ) → Stop → (old new : Option (List ℕ)) → Failure → Type 0
IsEndOf (Some printing) reading name (stop.Pod number place read) old new why =
    IsLastShown printing reading name.now number place read.items old new why
IsEndOf shown reading name stop old new why = IsFailureOf reading name stop why × Appends old new []

-- what is made of pods is what is made of each
abbrev pub IsMadeOfEach : Making → Type 0
IsMadeOfEach (making.Json style) = ⊤
IsMadeOfEach (making.Dump colours) = ⊥
IsMadeOfEach (making.Read strictness) = ⊥
IsMadeOfEach making.Rewrite = ⊤
IsMadeOfEach making.Fixate = ⊥
IsMadeOfEach making.Settle = ⊥
IsMadeOfEach (making.Print printing) = ⊥
IsMadeOfEach making.Check = ⊤

-- and what is made of blocks is what is made of all, where refused pods end by their size words
abbrev pub IsMadeInBlocks : Refused → Making → Type 0
IsMadeInBlocks refused making = IsMadeOfEach making × EndsBySize refused

-- what is made of an input of this name was written, and what is said of its refused pods was added
pub record PassesOver (reading : Reading) (refused : Refused) (making : Making) (name : List ℕ) (content old new : Option (List ℕ))
    (olds news : List NamedRefusal) : Type 0 where
  pub input : List ℕ
  pub its : IsAllOf content input
  pub out : List ℕ
  pub works : WorksOn reading refused making name 0 0 input out olds news
  pub written : Appends old new out

-- why the work on it ends before that does, and what was written of it
abbrev pub IsBrokenInPartAt : Reading → Refused → Making → (name : List ℕ) → (content old new : Option (List ℕ)) → Failure → Type 0
IsBrokenInPartAt reading refused making name content old new why =
    (input : List ℕ) × (out : List ℕ) × IsAllOf content input × EndsInPart reading refused making name input out why × IsWritten why old new out
