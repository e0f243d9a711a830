-- What a run writes, and what it says of that: docs/PROVED.md, "The programs".
use Rattle.std.specs.Prelude.{◌≡◌, ◌<◌, ◌+◌, ◌⊎◌, ⊤, ℕ, codes, List, [], ◌∷◌, ◌++◌, Option, Some, Result, Ok, Err, length, take}
use Rattle.std.specs.Borrow.{Bor}
use Rattle.std.specs.Fmt.{decimal}
use Rattle.std.specs.Io.KnownBytes.{Appends, Keeps}
use Rattle.spa_device.specs.Whole.{IsAllOf}
use Rattle.spa_format.specs.Tree.{Trees}
use Rattle.spa_format.specs.Pod.{AreMembers}
use Rattle.spa_format.specs.Walk.{HasObject, walk}
use Rattle.spa_format.specs.Fixation.{fixated_bytes, walk_size}
use Rattle.spa_canonical.specs.Rewriting.{AreRewritten, IsLeft, RefusesFront}
use Rattle.spa_fixed_sized.specs.Faults.{kind_text}
use Rattle.spa_fixed_sized.specs.declared.fault.DeserializeError.{DeserializeError}
use Rattle.spa_fixed_sized.specs.declared.fault.DeserializeError.TheVariants as error
use Rattle.spa_pod_commands.specs.declared.answer.Answer.{Answer}
use Rattle.spa_pod_commands.specs.declared.answer.Answer.TheVariants.{Done, Refused, Misused}
use Rattle.spa_pod_commands.specs.declared.answer.Failure.{Failure}
use Rattle.spa_pod_commands.specs.declared.answer.Failure.TheVariants.{Pod, OutOfMemory, ReadFailed, WriteFailed}

-- the words are this one alone
abbrev pub IsOneWord : List (Bor (List ℕ)) → List ℕ → Type 0
IsOneWord [] word = ⊥
IsOneWord (x ∷ []) word = x.now ≡ word
IsOneWord (x ∷ y ∷ more) word = ⊥

-- the program's words
abbrev pub IsUse : List (Bor (List ℕ)) → Type 0
IsUse words = IsOneWord words (codes "rewrite") ⊎ IsOneWord words (codes "fixate") ⊎ IsOneWord words (codes "show")

-- where the work was done, the first fact holds, and where it was refused, the second of the reason; the words were those of the program
abbrev pub OnAnswer : Answer → Type 0 → (Failure → Type 0) → Type 0
OnAnswer Done WasDone WasRefused = WasDone
OnAnswer (Refused why) WasDone WasRefused = WasRefused why
OnAnswer Misused WasDone WasRefused = ⊥

-- the answer where the work was done, unless the output can't be flushed then, and where it was refused
abbrev pub Answers : {T : Type 0} → Result T Failure → Answer → Type 0
Answers (Ok done) answer = (answer ≡ Done) ⊎ (answer ≡ Refused WriteFailed)
Answers (Err why) answer = answer ≡ Refused why

-- the program's status
abbrev pub status_of : Answer → ℕ
status_of Done = 0
status_of (Refused why) = 1
status_of Misused = 2

-- the text of a refusal
abbrev pub failure_text : Failure → List ℕ
failure_text (Pod place kind) = codes "byte " ++ (decimal place ++ (codes ": " ++ kind.now))
failure_text OutOfMemory = codes "out of memory"
failure_text ReadFailed = codes "read failed"
failure_text WriteFailed = codes "write failed"

-- the line that is written of an answer: none where the work was done
abbrev pub line_of : Answer → List ℕ
line_of Done = []
line_of (Refused why) = codes "podtool: " ++ (failure_text why ++ 10 ∷ [])
line_of Misused = codes "usage: podtool rewrite|fixate|show" ++ 10 ∷ []

-- the rewritings of the pods that the input consists of
abbrev pub Rewrites : List ℕ → List ℕ → Type 0
Rewrites input out = AreRewritten input [] out

-- a pod after fixation: an object's is fixated, and any other stays as it was
abbrev pub IsFixatedPod : List ℕ → List ℕ → Type 0
IsFixatedPod b out = (HasObject b × (out ≡ fixated_bytes b)) ⊎ ((¬ (HasObject b)) × (out ≡ b))

-- these pods one after another, each after fixation
abbrev pub AreFixated : List (List ℕ) → List ℕ → Type 0
AreFixated [] out = out ≡ []
AreFixated (p ∷ ps) out = (first : List ℕ) × (others : List ℕ) × (out ≡ first ++ others) × IsFixatedPod p first × AreFixated ps others

-- the pods that the input consists of, each after fixation
pub record Fixates (input out : List ℕ) : Type 0 where
  pub values : Trees
  pub accepted : AreMembers values input
  pub fixated : AreFixated (walk input) out

-- the input was read whole, and what is made of it was written
pub record Writes (Makes : List ℕ → List ℕ → Type 0) (remaining old new : Option (List ℕ)) : Type 0 where
  pub input : List ℕ
  pub read : IsAllOf remaining input
  pub out : List ℕ
  pub made : Makes input out
  pub written : Appends old new out

-- the input was read whole, the first `count` bytes of what is made of it were written, maybe all, and then the output failed
pub record BeginsToWrite (Makes : List ℕ → List ℕ → Type 0) (remaining old new : Option (List ℕ)) : Type 0 where
  pub input : List ℕ
  pub read : IsAllOf remaining input
  pub out : List ℕ
  pub made : Makes input out
  pub count : ℕ
  pub written : Appends old new (take count out)

-- The input was read whole, and isn't pods one after another: behind some first pods, at this place, begins none, for a reason of this name.
pub record RefusesInput (remaining : Option (List ℕ)) (place : ℕ) (kind : List ℕ) : Type 0 where
  pub input : List ℕ
  pub read : IsAllOf remaining input
  pub left : List ℕ
  pub behind : IsLeft input left
  pub its_place : place + length left ≡ length input
  pub refused : (vs : Trees) → ¬ (AreMembers vs input)
  pub cause : DeserializeError (Bor (List ℕ))
  pub front : RefusesFront left cause
  pub its_kind : kind ≡ kind_text cause

-- Why nothing is made of bytes that have to consist of pods: they don't, or memory runs out.
abbrev pub IsUnmade : List ℕ → Failure → Type 0
IsUnmade input (Pod place kind) = RefusesInput (Some input) place kind.now
IsUnmade input OutOfMemory = ⊤
IsUnmade input ReadFailed = ⊥
IsUnmade input WriteFailed = ⊥

-- Why the work on an input that has to consist of pods wasn't done, and what was written: nothing, unless a write failed.
abbrev pub IsUndone : (List ℕ → List ℕ → Type 0) → Option (List ℕ) → Option (List ℕ) → Option (List ℕ) → Failure → Type 0
IsUndone Makes remaining old new (Pod place kind) = RefusesInput remaining place kind.now × Keeps old new
IsUndone Makes remaining old new OutOfMemory = Keeps old new
IsUndone Makes remaining old new ReadFailed = Keeps old new
IsUndone Makes remaining old new WriteFailed = BeginsToWrite Makes remaining old new

-- the input was read whole, and behind its first whole pods, at this place, begins none: what is there is too short
pub record HasRemainder (remaining : Option (List ℕ)) (place : ℕ) (kind : List ℕ) : Type 0 where
  pub input : List ℕ
  pub read : IsAllOf remaining input
  pub behind : place ≡ walk_size (walk input)
  pub some : place < length input
  pub its_kind : kind ≡ codes "Short"

-- a reason that ends a listing after it has begun
abbrev pub IsCutOff : Failure → Type 0
IsCutOff why = (why ≡ OutOfMemory) ⊎ (why ≡ WriteFailed)

-- Why pods weren't listed, and what was written: nothing, where they weren't whole or weren't read.
abbrev pub IsNotListed : Option (List ℕ) → Option (List ℕ) → Option (List ℕ) → Failure → Type 0
IsNotListed remaining old new (Pod place kind) = HasRemainder remaining place kind.now × Keeps old new
IsNotListed remaining old new OutOfMemory = ⊤
IsNotListed remaining old new ReadFailed = Keeps old new
IsNotListed remaining old new WriteFailed = ⊤

-- the refusal of the top-level pod at this place, by this name
abbrev pub IsRefusalAt : ℕ → List ℕ → Failure → Type 0
IsRefusalAt place name (Pod p kind) = (p ≡ place) × (kind.now ≡ name)
IsRefusalAt place name _ = ⊥

-- the failure for this error of the pod at this place
abbrev pub IsFailureFor : {I : Type 0} → ℕ → DeserializeError I → Failure → Type 0
IsFailureFor place error.OutOfMemory failure = failure ≡ OutOfMemory
IsFailureFor place e failure = IsRefusalAt place (kind_text e) failure

-- as a record, from which lemmas infer the place and the error
pub record FailsFor {I : Type 0} (place : ℕ) (e : DeserializeError I) (failure : Failure) : Type 0 where
  pub its : IsFailureFor place e failure
