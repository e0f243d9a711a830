-- The effect of a write on its output: docs/FORMAT.md, "The encoding of a value".
use Rattle.std.specs.Prelude.{◌≡◌, ℕ, ◌+◌, ◌-◌, ◌<◌, ◌≤◌, List, ◌++◌, length, take, drop}
use Rattle.spa_sink.specs.declared.gen_error.GenError.{GenError}
use Rattle.spa_sink.specs.Writing.{Begun, RefusesPiece}
use Rattle.spa_format.specs.Words.{header_size, padded_size, size_limit, word_bytes}
use Rattle.spa_format.specs.Tree.{Tree, fixed, string, bytes, bitmap, array, choice, pointer, struct, object}
use Rattle.spa_format.specs.Encoding.{encoding_of, encoded_pod}
use Rattle.spa_format.specs.Typed.{IsTyped}
use Rattle.spa_format.specs.Writable.{IsWritable, HasNul, IsTooLarge}

-- how a sink may refuse: the sink before, how many bytes it was handed in all, the sink after, and the error
abbrev pub Refusing : Type 0 → Type 1
Refusing S = S → ℕ → S → GenError → Type 0

-- how a sink takes bytes: the sink before, the bytes, and the sink after, with these at its end
abbrev pub Appending : Type 0 → Type 1
Appending S = S → List ℕ → S → Type 0

-- the value is neither a struct nor an object
abbrev pub IsLeaf : Tree → Type 0
IsLeaf (fixed x) = Unit {0}
IsLeaf (string s) = Unit {0}
IsLeaf (bytes s) = Unit {0}
IsLeaf (bitmap s) = Unit {0}
IsLeaf (array k xs) = Unit {0}
IsLeaf (choice s f k x xs) = Unit {0}
IsLeaf (pointer t a) = Unit {0}
IsLeaf (struct vs) = ⊥
IsLeaf (object t i ps) = ⊥

-- a sink took the encoding of this value, which can be written
pub record IsPut {S : Type 0} (appends : Appending S) (old : S) (v : Tree) (new : S) : Type 0 where
  pub encoding : appends old (encoding_of v) new
  pub typed : IsTyped v
  pub writable : IsWritable v

-- a sink refused these bytes, and may have taken a beginning of them
pub record Stops {S : Type 0} (appends : Appending S) (refuses : Refusing S)
    (old : S) (bytes : List ℕ) (new : S) (e : GenError) : Type 0 where
  pub begun : Begun appends old bytes new
  pub cause : refuses old (length bytes) new e

-- These bytes were appended to an output. Whatever the output may refuse from now on, it might have refused together with
-- these bytes before.
pub record IsExtended {S : Type 0} (content : S → List ℕ) (refuses : Refusing S)
    (old : S) (added : List ℕ) (new : S) : Type 0 where
  pub bytes : content new ≡ content old ++ added
  pub room : (after : S) (n : ℕ) (e : GenError) → refuses new n after e → refuses old (length added + n)
      after e

-- why the encoding of this value was refused: a text in it holds NUL or a size doesn't fit a word of 32 bits, and no byte was appended;
-- or the sink refused as many bytes as the encoding has, and is `new` after that
abbrev pub RefusesLeaf : {S : Type 0} → Refusing S → S → Tree → S → GenError → Type 0
RefusesLeaf refuses old v new =
    RefusesPiece (HasNul v) (IsTooLarge v) (refuses old (length (encoding_of v)) new) old new

-- the length in bytes of the body of a pod that begins at the offset `start` and ends with the bytes
abbrev pub begun_length : List ℕ → ℕ → ℕ
begun_length b start = length b - (start + header_size)

-- the size word of the pod that begins at the offset `start` was written, and nothing else was changed
pub record IsClosed {S : Type 0} (content : S → List ℕ) (refuses : Refusing S)
    (old : S) (start : ℕ) (new : S) : Type 0 where
  pub sized : content new ≡ take start (content old) ++
      (word_bytes (begun_length (content old) start) ++ drop (start + 4) (content old))
  pub room : (after : S) (n : ℕ) (e : GenError) → refuses new n after e → refuses old n after e
  pub fits : begun_length (content old) start < size_limit

-- a body of `n` bytes has no padding
abbrev pub IsWholeSize : ℕ → Type 0
IsWholeSize n = padded_size n ≡ n

-- An open pod of this type begins at the offset `start` of an output, behind the bytes that it held before: a header whose size
-- word isn't written yet, and this body.
pub record IsBegun {S : Type 0} (content : S → List ℕ) (refuses : Refusing S)
    (before : S) (start type : ℕ) (body : List ℕ) (now : S) : Type 0 where
  pub place : start ≡ length (content before)
  pub inside : IsExtended content refuses before ((word_bytes 0 ++ word_bytes type) ++ body) now

-- the open pod that begins at the offset `start` was closed: where its body needs no padding, it is a whole pod behind the bytes before it
abbrev pub ClosesPod : {S : Type 0} → (S → List ℕ) → Refusing S → S → ℕ → S → Type 0
ClosesPod {S = S} content refuses old start new = (before : S) (type : ℕ) (body : List ℕ) →
    IsBegun content refuses before start type body old → IsWholeSize (length body) →
    IsExtended content refuses before (encoded_pod type body) new

-- the length of the body of the open pod that begins at the offset `start` doesn't fit 32 bits
abbrev pub IsPastLimit : {S : Type 0} → (S → List ℕ) → Refusing S → S → ℕ → Type 0
IsPastLimit {S = S} content refuses old start = (before : S) (type : ℕ) (body : List ℕ) →
    IsBegun content refuses before start type body old → size_limit ≤ length body
