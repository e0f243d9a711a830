-- The inputs that names stand for, and what is made of them one after another.
use Rattle.std.specs.Prelude.{◌≡◌, ◌⊎◌, ◌+◌, ℕ, List, [], ◌∷◌, ◌++◌, Option, None, Some, IfSome, if◌then◌else◌}
use Rattle.std.specs.Borrow.{Bor}
use Rattle.std.specs.Str.{bytes_eq}
use Rattle.spa_device.specs.Whole.{IsAllOf}
use Rattle.spa_recordings.specs.Reading.{ReadsAs}
use Rattle.spa_recordings.specs.declared.reading.Reading.{Reading}
use Rattle.pod_commands.specs.Requests.{dash}
use Rattle.pod_commands.specs.declared.answer.Failure.{Failure}

-- what a name stands for, where it is known: `-` for what is left of the standard input, another one for a file's bytes
abbrev pub content_of : (remaining : Option (List ℕ)) → (holds : List ℕ → Option (List ℕ)) → List ℕ → Option (List ℕ)
content_of remaining holds name = if bytes_eq name dash then remaining else holds name

-- a reader has all that is known of a file left
abbrev pub IsOpened : (holds remaining : Option (List ℕ)) → Type 0
IsOpened holds remaining = IfSome holds (λ bytes. remaining ≡ Some bytes)

-- what is known to be left of the standard input behind a name: nothing is said of it once it was read
abbrev pub left_behind : Option (List ℕ) → List ℕ → Option (List ℕ)
left_behind remaining name = if bytes_eq name dash then None else remaining

-- what is made of each input, one behind another; so many of their pods are refused in all
abbrev pub AreMade : (List ℕ → List ℕ → ℕ → Type 0) → (remaining : Option (List ℕ)) → (holds : List ℕ → Option (List ℕ)) → List (Bor (List ℕ)) →
    (out : List ℕ) → (refused : ℕ) → Type 0
AreMade Makes remaining holds [] out refused = (out ≡ []) × (refused ≡ 0)
AreMade Makes remaining holds (n ∷ ns) out refused =
    (input : List ℕ) × (first : List ℕ) × (others : List ℕ) × (i : ℕ) × (j : ℕ) × IsAllOf (content_of remaining holds n.now) input × Makes input first i
    × (out ≡ first ++ others) × (refused ≡ i + j) × AreMade Makes (left_behind remaining n.now) holds ns others j

-- Of some first inputs something is made, and the work stops at the next one, for this reason; these bytes were made in all.
abbrev pub StopsAt : (List ℕ → List ℕ → ℕ → Type 0) → (List ℕ → List ℕ → List ℕ → Failure → Type 0) → (remaining : Option (List ℕ)) →
    (holds : List ℕ → Option (List ℕ)) → List (Bor (List ℕ)) → List ℕ → Failure → Type 0
StopsAt Makes Stops remaining holds [] out why = ⊥
StopsAt Makes Stops remaining holds (n ∷ ns) out why =
    ((input : List ℕ) × IsAllOf (content_of remaining holds n.now) input × Stops n.now input out why)
    ⊎ ((input : List ℕ) × (first : List ℕ) × (others : List ℕ) × (i : ℕ) × IsAllOf (content_of remaining holds n.now) input × Makes input first i
    × (out ≡ first ++ others) × StopsAt Makes Stops (left_behind remaining n.now) holds ns others why)

-- these are the pods as which an input is read: its bytes, or leniently the encodings of the values that they convey
pub record IsRead (reading : Reading) (content : Option (List ℕ)) (pods : List ℕ) : Type 0 where
  pub input : List ℕ
  pub its : IsAllOf content input
  pub read : ReadsAs reading input pods

-- the pods as which the inputs of two names are read, and this holds of them
pub record OfTwo (reading : Reading) (remaining : Option (List ℕ)) (holds : List ℕ → Option (List ℕ)) (n m : List ℕ) (Holds : List ℕ → List ℕ → Type 0) :
    Type 0 where
  pub first : List ℕ
  pub second : List ℕ
  pub first_read : IsRead reading (content_of remaining holds n) first
  pub second_read : IsRead reading (content_of (left_behind remaining n) holds m) second
  pub fact : Holds first second

-- the pods as which the input of one name is read, and this holds of them
pub record OfOne (reading : Reading) (remaining : Option (List ℕ)) (holds : List ℕ → Option (List ℕ)) (n : List ℕ) (Holds : List ℕ → Type 0) : Type 0 where
  pub pods : List ℕ
  pub read : IsRead reading (content_of remaining holds n) pods
  pub fact : Holds pods

-- what is expected of the standard input is what is left of it, or nothing; only private clauses cite it
abbrev pub IsKnown : (expected remaining : Option (List ℕ)) → Type 0
IsKnown expected remaining = (expected ≡ remaining) ⊎ (expected ≡ None)

-- these are the pods as which the inputs of two names are read; only private clauses cite it
abbrev pub AreBoth : Reading → (remaining : Option (List ℕ)) → (holds : List ℕ → Option (List ℕ)) → (n m first second : List ℕ) → Type 0
AreBoth reading remaining holds n m first second =
    IsRead reading (content_of remaining holds n) first × IsRead reading (content_of (left_behind remaining n) holds m) second
