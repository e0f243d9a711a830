-- What is made of an input of which some pods are refused: docs/PROVED.md, "The programs".
use Rattle.std.specs.Prelude.{⊤, ◌≡◌, ◌≢◌, ◌≤◌, ◌<◌, ◌+◌, ◌-◌, ◌⊎◌, if◌then◌else◌, max, nat_lt, ℕ, List, [], ◌∷◌, ◌++◌, Option, None, Some, drop, length, take}
use Rattle.spa_format.specs.Faults.{Fault}
use Rattle.spa_format.specs.Front.{HasFront, front_of, rest_of}
use Rattle.spa_format.specs.Walk.{walk}
use Rattle.spa_format.specs.Tree.{struct_type}
use Rattle.spa_format.specs.Words.{body_of, header_size, word_at}
use Rattle.spa_recordings.specs.Plausible.{IsNextPlausible, IsNoneBehind, IsPlausible}
use Rattle.spa_recordings.specs.Reading.{IsNoPod, IsUnreadAt, ReadsAs}
use Rattle.spa_recordings.specs.declared.going_on.Gap.{Gap}
use Rattle.spa_recordings.specs.declared.going_on.Overlap.{Overlap}
use Rattle.spa_recordings.specs.declared.going_on.Progress.{Progress}
use Rattle.spa_recordings.specs.declared.going_on.Refused.{Refused}
use Rattle.spa_recordings.specs.declared.going_on.Refused.TheVariants.{LeftOut, Kept, Resynced}
use Rattle.spa_recordings.specs.declared.going_on.RefusedPod.{RefusedPod}
use Rattle.spa_recordings.specs.declared.reading.Reading.{Reading}
use Rattle.spa_recordings.specs.declared.reading.Reading.TheVariants.{Exact, Lenient}
use Rattle.spa_canonical.specs.Look.{StandsAt, from_pod}

-- what stays of the bytes that are passed with a refused pod
abbrev pub kept_of : Refused → List ℕ → List ℕ
kept_of LeftOut bytes = []
kept_of Kept bytes = bytes
kept_of Resynced bytes = []

-- the pod at the front is whole, and behind it the input ends or a pod plausibly begins
abbrev pub IsWellFollowed : List ℕ → Type 0
IsWellFollowed left = HasFront left × ((rest_of left ≡ []) ⊎ IsPlausible (rest_of left))

-- the pod at the front takes so many bytes, if it is whole; else none
abbrev pub IsWholeLen : List ℕ → (n : ℕ) → Type 0
IsWholeLen b n = (HasFront b × (n ≡ length (front_of b))) ⊎ (¬ (HasFront b) × (n ≡ 0))

-- So many bytes of a refused pod are read: those before its fault. In the lenient reading, which doesn't say at which byte that is, those before the end of
-- its first member that isn't read; of another pod than a whole struct all, if it is whole, and else none.
pub data IsReadTo : Reading → (left : List ℕ) → (n : ℕ) → Type 0 where
  to_fault : (left : List ℕ) (n : ℕ) (fault : Fault) → StandsAt fault from_pod n left → IsReadTo Exact left n
  to_member : (left inner kind : List ℕ) (n len : ℕ) → HasFront left → word_at left 4 ≡ struct_type → IsUnreadAt Lenient (body_of left) inner kind →
      IsWholeLen inner len → n ≡ header_size + (length (body_of left) - length inner) + len → IsReadTo Lenient left n
  to_end : (left : List ℕ) (n : ℕ) → ¬ (HasFront left × (word_at left 4 ≡ struct_type)) → IsWholeLen left n → IsReadTo Lenient left n

-- so many refused pods that overlap are tried in a row
abbrev pub tried : ℕ
tried = 64

-- no refused pods
abbrev pub no_overlap : Overlap
no_overlap = record { more = 0; end = 0 }

-- The refused pods that overlap, with one more, which begins at this place and is read up to this byte: it overlaps with those before it if it begins
-- before the furthest byte to which they were read.
abbrev pub with_one : Overlap → (place end : ℕ) → Overlap
with_one before place end =
    if nat_lt place before.end then record { more = before.more - 1; end = max before.end end } else record { more = tried - 1; end = end }

-- From which byte of the last of these pods on, which begins at this place, the next one is sought: from its second eight on, or if no more are tried
-- from the furthest byte on to which they were read.
abbrev pub sought_from : Overlap → (place : ℕ) → ℕ
sought_from these place = if nat_lt 0 these.more then header_size else max header_size (these.end - place)

-- How many bytes are left out with a refused pod at this place where its size word isn't trusted: that pod alone, if it is well followed; else all up to
-- the next byte where a pod plausibly begins, or up to the end of the input. Which refused pods overlap behind it.
pub data Resyncs (reading : Reading) (place : ℕ) (left : List ℕ) (before : Overlap) : ℕ → Overlap → Type 0 where
  behind_pod : (n : ℕ) → IsWellFollowed left → n ≡ length (front_of left) → Resyncs reading place left before n before
  at_plausible : (n read : ℕ) (these : Overlap) → ¬ (IsWellFollowed left) → IsReadTo reading left read → these ≡ with_one before place (place + read) →
      IsNextPlausible left (sought_from these place) n → Resyncs reading place left before n these
  at_end : (n read : ℕ) (these : Overlap) → ¬ (IsWellFollowed left) → IsReadTo reading left read → these ≡ with_one before place (place + read) →
      IsNoneBehind left (sought_from these place) → n ≡ length left → Resyncs reading place left before n these

-- the pod ends by its size word, or with the input if that is behind it
abbrev pub IsPassedBySize : (left : List ℕ) → (before : Overlap) → (n : ℕ) → (these : Overlap) → Type 0
IsPassedBySize left before n these = (n ≡ length (front_of left)) × (these ≡ before)

-- behind so many bytes from a refused pod at this place on the work goes on, behind these refused pods that overlap
abbrev pub GoesOnBehind : Refused → Reading → (place : ℕ) → (left : List ℕ) → (before : Overlap) → (n : ℕ) → (these : Overlap) → Type 0
GoesOnBehind LeftOut reading place left before n these = IsPassedBySize left before n these
GoesOnBehind Kept reading place left before n these = IsPassedBySize left before n these
GoesOnBehind Resynced reading place left before n these = Resyncs reading place left before n these

-- a refused pod ends where its size word says, or with the input
abbrev pub EndsBySize : Refused → Type 0
EndsBySize LeftOut = ⊤
EndsBySize Kept = ⊤
EndsBySize Resynced = ⊥

-- what is said to be left out from this byte on, where that isn't the pod's size
abbrev pub left_out_by : Refused → (place n : ℕ) → Option Gap
left_out_by LeftOut place n = None
left_out_by Kept place n = None
left_out_by Resynced place n = Some (record { len = n; end = place + n })

-- this is made of the pods as which bytes are read
abbrev pub MakesOf : Reading → (Makes : List ℕ → List ℕ → Type 0) → (input out : List ℕ) → Type 0
MakesOf reading Makes input out = (pods : List ℕ) × ReadsAs reading input pods × Makes pods out

-- Behind these first pods of what begins at this place, behind so many pods, this one is refused; so many bytes are passed with it.
pub record PassesPod (name : List ℕ) (reading : Reading) (refused : Refused) (before : Overlap) (count place : ℕ) (first left : List ℕ) (n : ℕ)
    (these : Overlap) (pod : RefusedPod) : Type 0 where
  pub some : left ≢ []
  pub nothing : IsNoPod reading left pod.kind.now
  pub passed : GoesOnBehind refused reading pod.place left before n these
  pub its_name : pod.name.now ≡ name
  pub its_number : pod.number ≡ count + length (walk first) + 1
  pub its_place : pod.place ≡ place + length first
  pub left_out : pod.left_out ≡ left_out_by refused pod.place n

-- What is made of an input, which begins at this place behind so many pods and behind refused ones that overlap: what is made of all its pods; or of those
-- before a refused one, then what stays of that one, and then what is made so of what follows behind it.
pub data GoesOnFrom (name : List ℕ) (reading : Reading) (refused : Refused) (Makes : List ℕ → List ℕ → Type 0) :
    (before : Overlap) → (count place : ℕ) → (input out : List ℕ) → List RefusedPod → Type 0 where
  ends : (before : Overlap) (count place : ℕ) (input out : List ℕ) → MakesOf reading Makes input out →
      GoesOnFrom name reading refused Makes before count place input out []
  passes : (before these : Overlap) (count place n : ℕ) (first left made others : List ℕ) (pod : RefusedPod) (pods : List RefusedPod) →
      MakesOf reading Makes first made → PassesPod name reading refused before count place first left n these pod →
      GoesOnFrom name reading refused Makes these pod.number (pod.place + n) (drop n left) others pods →
      GoesOnFrom name reading refused Makes before count place (first ++ left) (made ++ (kept_of refused (take n left) ++ others)) (pod ∷ pods)

-- the same from a place before which no refused pods overlap
abbrev pub GoesOn : (name : List ℕ) → Reading → Refused → (Makes : List ℕ → List ℕ → Type 0) → (count place : ℕ) → (input out : List ℕ) →
    List RefusedPod → Type 0
GoesOn name reading refused Makes count place input out pods = GoesOnFrom name reading refused Makes no_overlap count place input out pods

-- ---- Steps. Only private clauses cite them.

-- these bytes, which are some, begin with no pod, for a reason of this name
abbrev pub BeginsWithNone : Reading → (left kind : List ℕ) → Type 0
BeginsWithNone reading left kind = (left ≢ []) × IsNoPod reading left kind

-- what is made of these bytes was appended
abbrev pub AddsMade : Reading → (Makes : List ℕ → List ℕ → Type 0) → (bytes old new : List ℕ) → Type 0
AddsMade reading Makes bytes old new = (made : List ℕ) × MakesOf reading Makes bytes made × (new ≡ old ++ made)

-- what is made of all that is left was appended
abbrev pub MakesLast : Reading → (Makes : List ℕ → List ℕ → Type 0) → (left old new : List ℕ) → (olds news : List RefusedPod) → Type 0
MakesLast reading Makes left old new olds news = AddsMade reading Makes left old new × (news ≡ olds)

-- what is made of what is left up to the first refused pod was appended, with what stays of that one; this follows it
pub record MakesNext (reading : Reading) (refused : Refused) (Makes : List ℕ → List ℕ → Type 0) (start : Progress) (left : List ℕ) (behind : Progress)
    (rest old new : List ℕ) (olds news : List RefusedPod) : Type 0 where
  pub made : List ℕ
  pub pod : RefusedPod
  pub written : new ≡ old ++ made
  pub listed : news ≡ olds ++ (pod ∷ [])
  pub named : behind.name.now ≡ start.name.now
  pub shorter : length rest < length left
  pub few : behind.count + length rest ≤ start.count + length left
  pub placed : behind.place + length rest ≡ start.place + length left
  pub goes_on : (others : List ℕ) (pods : List RefusedPod) →
      GoesOnFrom start.name.now reading refused Makes behind.overlap behind.count behind.place rest others pods →
      GoesOnFrom start.name.now reading refused Makes start.overlap start.count start.place left (made ++ others) (pod ∷ pods)
