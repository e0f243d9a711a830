-- Pods that are written member by member: docs/FORMAT.md, "The encoding of a value".
use Rattle.std.specs.Prelude.{◌≡◌, ◌⊎◌, ℕ, ◌+◌, ◌*◌, ◌<◌, ◌≤◌, List, ◌++◌, length, take, drop, Option, Some, None}
use Rattle.spa_sink.specs.declared.gen_error.GenError.{GenError}
use Rattle.spa_sink.specs.Writing.{MayRefuse}
use Rattle.spa_format.specs.Words.{header_size, size_limit, word_bytes}
use Rattle.spa_format.specs.Tree.{array_type}
use Rattle.spa_bodies.specs.Written.{IsWholeSize, Refusing}

-- A struct or an object that is open: the type of its pod, the bytes of the output before it, and its body so far. Its size word is 0.
pub record Unfinished : Type 0 where
  pub type : ℕ
  pub before : List ℕ
  pub body : List ℕ

-- the bytes of the output: those before the open pod, its header, and its body so far
abbrev pub output_bytes : Unfinished → List ℕ
output_bytes w = w.before ++ ((word_bytes 0 ++ word_bytes w.type) ++ w.body)

-- these bytes were appended to the body so far; a writer that has failed takes none
abbrev pub Grows : Option Unfinished → List ℕ → Option Unfinished → Type 0
Grows None b new = ⊥
Grows (Some w) b new = new ≡ Some (record { type = w.type; before = w.before; body = w.body ++ b })

-- An array that is open: the bytes of the output before it, its body so far, and how many elements are left. Its size word counts
-- these, too.
pub record UnfinishedArray : Type 0 where
  pub before : List ℕ
  pub body : List ℕ
  pub left : ℕ

-- the bytes of the output: those before the open array, its header, and its body so far; an element has `size` bytes
abbrev pub array_output_bytes : ℕ → UnfinishedArray → List ℕ
array_output_bytes size w = w.before ++ ((word_bytes (length w.body + w.left * size) ++ word_bytes array_type) ++ w.body)

-- one of the elements that were left was appended to the body so far
abbrev pub GrowsByElement : Option UnfinishedArray → List ℕ → Option UnfinishedArray → Type 0
GrowsByElement None b new = ⊥
GrowsByElement (Some w) b new = (left : ℕ) × (w.left ≡ left + 1) ×
    (new ≡ Some (record { before = w.before; body = w.body ++ b; left = left }))

-- an output that holds these bytes may refuse `n` more
pub record MayRefuseBehind {S : Type 0} (content : S → List ℕ) (refuses : Refusing S)
    (b : List ℕ) (n : ℕ) (e : GenError) : Type 0 where
  pub output : S
  pub holds : content output ≡ b
  pub refused : MayRefuse refuses output n e

-- an output with this open object may refuse key and flags of a property, or behind them a value of `n` bytes
abbrev pub MayRefuseProperty : {S : Type 0} → (S → List ℕ) → Refusing S → Unfinished → (key flags n : ℕ) → GenError → Type 0
MayRefuseProperty content refuses w key flags n e =
    MayRefuseBehind content refuses (output_bytes w) header_size e
    ⊎ MayRefuseBehind content refuses (output_bytes w ++ (word_bytes key ++ word_bytes flags)) n e

-- the open struct or object of this type that begins at the offset `start` of these bytes
abbrev pub open_pod_at : ℕ → ℕ → List ℕ → Unfinished
open_pod_at type start b =
    record { type = type; before = take start b; body = drop (start + header_size) b }

-- the open struct or object in an output; None where the output was given up
abbrev pub open_pod_in : {S : Type 0} → (S → List ℕ) → ℕ → ℕ → Option S → Option Unfinished
open_pod_in content type start None = None
open_pod_in content type start (Some o) = Some (open_pod_at type start (content o))

-- at the offset `start` there is the header of an open struct or object of this type, and behind it a multiple of 8 bytes
pub record IsUnfinished (type start : ℕ) (b : List ℕ) : Type 0 where
  pub room : start + header_size ≤ length b
  pub split : b ≡ output_bytes (open_pod_at type start b)
  pub whole : IsWholeSize (length (drop (start + header_size) b))

-- the open array that begins at the offset `start` of these bytes
abbrev pub array_at : ℕ → ℕ → List ℕ → UnfinishedArray
array_at start left b =
    record { before = take start b; body = drop (start + header_size) b; left = left }

-- the open array in an output; None where the output was given up
abbrev pub open_array_in : {S : Type 0} → (S → List ℕ) → ℕ → ℕ → Option S → Option UnfinishedArray
open_array_in content start left None = None
open_array_in content start left (Some o) = Some (array_at start left (content o))

-- at the offset `start` there is the header of an open array whose elements have `size` bytes each, and its size word counts those that are left
pub record IsUnfinishedArray (size start left : ℕ) (b : List ℕ) : Type 0 where
  pub room : start + header_size ≤ length b
  pub split : b ≡ array_output_bytes size (array_at start left b)
  pub fits : length (drop (start + header_size) b) + left * size < size_limit
