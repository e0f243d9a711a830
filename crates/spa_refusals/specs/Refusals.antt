-- What is said of a refused pod: docs/TEXT.md, "What is said of a refused pod".
use Rattle.std.specs.Prelude.{◌≡◌, ◌≤◌, ◌<◌, ◌+◌, ◌^◌, ◌⊎◌, if◌then◌else◌, nat_lt, ℕ, codes, List, [], ◌∷◌, ◌++◌, Option, Some, None, length, drop, take, option_map, string_bytes}
use Rattle.std.specs.Borrow.{Bor}
use Rattle.std.specs.Fmt.{decimal}
use Rattle.spa_fixed_sized.specs.Faults.{error_text, kind_text}
use Rattle.spa_fixed_sized.specs.declared.fault.DeserializeError.{DeserializeError}
use Rattle.spa_format.specs.Faults.{Fault, Stands}
use Rattle.spa_format.specs.Front.{HasFront}
use Rattle.spa_format.specs.Walk.{walk}
use Rattle.spa_format.specs.Words.{extent, header_size, word_at}
use Rattle.spa_bodies.specs.Reading.{IsShortAt, Names, OnMemory}
use Rattle.spa_read.specs.Reading.{StandsLeniently}
use Rattle.spa_recordings.specs.Plausible.{IsNextPlausible, IsNoneBehind}
use Rattle.spa_recordings.specs.Reading.{IsAccepted, IsLeftOf, IsNothing}
use Rattle.spa_recordings.specs.declared.reading.Reading.{Reading}
use Rattle.spa_recordings.specs.declared.reading.Reading.TheVariants.{Exact, Lenient}
use Rattle.spa_refusals.specs.Paths.{IsPath, name_text, type_name}
use Rattle.spa_refusals.specs.declared.names.TypeName.{TypeName}
use Rattle.spa_refusals.specs.declared.refusal.Cut.{Cut}
use Rattle.spa_refusals.specs.declared.refusal.Refusal.{Refusal}

-- a fault is in the pod at the front, at this place
abbrev pub StandsBy : Reading → Fault → (place pod : List ℕ) → Type 0
StandsBy Exact fault place pod = Stands fault place pod
StandsBy Lenient fault place pod = StandsLeniently fault place pod

-- Why no pod is read at the front: for a fault that is in it, and for want of bytes where it isn't whole.
pub record IsUnreadFor (reading : Reading) (pod : List ℕ) (e : DeserializeError (Bor (List ℕ))) : Type 0 where
  pub nothing : IsNothing reading pod
  pub fault : OnMemory ⊥ e
  pub named : Names (λ fault place. StandsBy reading fault place pod) e
  pub short_first : ¬ (HasFront pod) → IsShortAt pod e

-- the path to the pod that the cause is about; leniently that is the refused pod itself
abbrev pub LeadsBy : Reading → (pod path inner : List ℕ) → Type 0
LeadsBy Exact pod path inner = IsPath pod path inner
LeadsBy Lenient pod path inner = (path ≡ []) × (inner ≡ pod)

-- how many bytes the pod at the front takes with its padding; of fewer bytes than a header has, a header is wanted
abbrev pub wanted : List ℕ → ℕ
wanted pod = if nat_lt (length pod) header_size then header_size else extent (word_at pod 0)

-- behind the header of the pod at this byte the next one plausibly begins at that byte; or none does, or bytes that far are past what is counted
abbrev pub IsNextOf : (place : ℕ) → List ℕ → Option ℕ → Type 0
IsNextOf place pod (Some at) = (n : ℕ) × (at ≡ place + n) × IsNextPlausible pod header_size n
IsNextOf place pod None = IsNoneBehind pod header_size ⊎ (2 ^ 64 ≤ place + length pod)

-- all of the pod at the front is there, which begins at this byte, or so much of it
abbrev pub IsCutOf : (place : ℕ) → List ℕ → Option Cut → Type 0
IsCutOf place pod None = wanted pod ≤ length pod
IsCutOf place pod (Some cut) =
    (cut.takes ≡ wanted pod) × (cut.there ≡ length pod) × (length pod < wanted pod) × IsNextOf place pod cut.next

-- what is said of the pod at the front of these bytes: its type, the path to the malformed one inside, and the cause
pub record IsRefusalOf (reading : Reading) (pod : List ℕ) (refusal : Refusal) : Type 0 where
  pub type : option_map name_text refusal.type_ ≡ type_name pod
  pub nothing : IsNothing reading pod
  pub inner : List ℕ
  pub path : LeadsBy reading pod (string_bytes refusal.path) inner
  pub inner_type : option_map name_text refusal.inner_type ≡ type_name inner
  pub cause : DeserializeError (Bor (List ℕ))
  pub its : IsUnreadFor reading inner cause
  pub kind : refusal.kind.now ≡ kind_text cause
  pub words : string_bytes refusal.words ≡ error_text cause
  pub short : ¬ (HasFront pod) → refusal.kind.now ≡ codes "Short"
  pub cut : IsCutOf refusal.place pod refusal.cut

-- what is said of the pod at the front of what follows `place`
pub record IsRefusalAt (reading : Reading) (input : List ℕ) (refusal : Refusal) : Type 0 where
  pub within : refusal.place ≤ length input
  pub number : refusal.number ≡ length (walk (take refusal.place input)) + 1
  pub its : IsRefusalOf reading (drop refusal.place input) refusal

-- not all of the input is read: the pods before are, and this is said of the one behind them
abbrev pub IsFirstRefusal : Reading → List ℕ → Refusal → Type 0
IsFirstRefusal reading input refusal =
    ¬ (IsAccepted reading input) × IsLeftOf reading input (drop refusal.place input) × IsRefusalAt reading input refusal

-- what is said of the pod at the front of these bytes, where the cause isn't in them: its type, and the cause
pub record IsRefusalFor (pod kind words : List ℕ) (refusal : Refusal) : Type 0 where
  pub type : option_map name_text refusal.type_ ≡ type_name pod
  pub no_path : string_bytes refusal.path ≡ []
  pub its_kind : refusal.kind.now ≡ kind
  pub its_words : string_bytes refusal.words ≡ words
  pub whole : refusal.cut ≡ None

-- ---- The text

-- a type in brackets, where there is one
abbrev pub title_text : Option TypeName → List ℕ
title_text None = []
title_text (Some type) = codes " (" ++ (name_text type ++ codes ")")

-- where the next pod plausibly begins, if one does
abbrev pub next_text : Option ℕ → List ℕ
next_text None = []
next_text (Some at) = codes ", and a pod may begin at byte " ++ decimal at

-- how much of the pod is there, where it isn't whole
abbrev pub there_text : Option Cut → List ℕ
there_text None = []
there_text (Some cut) =
    codes ": " ++ (decimal cut.there ++ (codes " of " ++ (decimal cut.takes ++ (codes " are there" ++ next_text cut.next))))

-- the path, where there is one, and the type of the pod that it leads to
abbrev pub inner_text : (path : List ℕ) → Option TypeName → List ℕ
inner_text [] type = []
inner_text (x ∷ path) type = codes ", at " ++ (x ∷ path ++ title_text type)

-- the refusal
abbrev pub refusal_text : Refusal → List ℕ
refusal_text r =
    codes "pod " ++ (decimal r.number ++ (title_text r.type_ ++ (codes ", byte " ++ (decimal r.place ++ (inner_text (string_bytes r.path) r.inner_type
    ++ (codes ": " ++ (string_bytes r.words ++ (there_text r.cut ++ (codes " (" ++ (r.kind.now ++ codes ")"))))))))))
