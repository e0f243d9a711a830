-- The containers that are begun, each inside the next one around it, and what is left of each: docs/FORMAT.md, "The encoding of a value".
use Rattle.std.specs.Prelude.{◌≡◌, ℕ, ◌+◌, ◌<◌, ◌≤◌, ◌⊎◌, ◌↔◌, List, [], ◌∷◌, ◌++◌, length, take, drop, Option, Some, None}
use Rattle.spa_sink.specs.declared.gen_error.GenError.{GenError}
use Rattle.spa_sink.specs.declared.gen_error.GenError.TheVariants.{OutOfMemory}
use Rattle.spa_sink.specs.Writing.{RefusesWrite}
use Rattle.spa_format.specs.Words.{header_size, size_limit, word_bytes}
use Rattle.spa_format.specs.Tree.{Tree, struct}
use Rattle.spa_format.specs.Encoding.{encoded_body, encoding_of, member_encodings, property_encodings}
use Rattle.spa_format.specs.Typed.{IsTyped, AllTyped, AllPropertiesTyped}
use Rattle.spa_format.specs.Writable.{HasNul, IsTooLarge, IsWritable, SomeHasNul, SomeTooLarge, SomeValueHasNul, SomeValueTooLarge}
use Rattle.spa_value.specs.View.{object_view}
use Rattle.spa_value.specs.Views.{views, property_views}
use Rattle.spa_bodies.specs.Written.{begun_length}
use Rattle.spa_write.specs.declared.left.Left.{Left}
use Rattle.spa_write.specs.declared.left.Left.TheVariants as left
use Rattle.spa_write.specs.declared.left.Nested.{Nested}
use Rattle.spa_write.specs.declared.left.Nested.TheVariants as nested
use Rattle.spa_write.specs.declared.left.Stop.{Stop}
use Rattle.spa_write.specs.declared.left.Begun.{Begun}

-- the bytes that are still to be written for what is left of a container
abbrev pub left_encodings : Left → List ℕ
left_encodings (left.Members vs) = member_encodings (views vs.now)
left_encodings (left.Properties ps) = property_encodings (property_views ps.now)

-- each value that is left in the container has numbers within their types, and texts in UTF-8
abbrev pub LeftTyped : Left → Type 0
LeftTyped (left.Members vs) = AllTyped (views vs.now)
LeftTyped (left.Properties ps) = AllPropertiesTyped (property_views ps.now)

-- a text in what is left of the container holds NUL
abbrev pub LeftHasNul : Left → Type 0
LeftHasNul (left.Members vs) = SomeHasNul (views vs.now)
LeftHasNul (left.Properties ps) = SomeValueHasNul (property_views ps.now)

-- a size word in what is left of the container doesn't fit 32 bits
abbrev pub LeftTooLarge : Left → Type 0
LeftTooLarge (left.Members vs) = SomeTooLarge (views vs.now)
LeftTooLarge (left.Properties ps) = SomeValueTooLarge (property_views ps.now)

-- what is left of the container can be written
pub record LeftIsWritable (l : Left) : Type 0 where
  pub typed : LeftTyped l
  pub no_nul : ¬ (LeftHasNul l)
  pub fits : ¬ (LeftTooLarge l)

-- why a value's encoding isn't made in memory: the value can't be written, or memory ran out
abbrev pub RefusesMade : Tree → GenError → Type 0
RefusesMade v = RefusesWrite (HasNul v) (IsTooLarge v) (λ e. e ≡ OutOfMemory)

-- why what is left of the container isn't appended in memory: it can't be written, or memory ran out
abbrev pub RefusesLeft : Left → GenError → Type 0
RefusesLeft l = RefusesWrite (LeftHasNul l) (LeftTooLarge l) (λ e. e ≡ OutOfMemory)

-- the tree of a container
abbrev pub nested_tree : Nested → Tree
nested_tree (nested.Struct vs) = struct (views vs.now)
nested_tree (nested.Object o) = object_view o.now

-- the encoding of this value, which can be written, was appended to the old bytes
pub record IsAppended (v : Tree) (old new : List ℕ) : Type 0 where
  pub bytes : new ≡ old ++ encoding_of v
  pub typed : IsTyped v
  pub writable : IsWritable v

-- either the value's encoding was appended, or the value is the container that is answered, and nothing was appended
abbrev pub PutsOrPasses : Tree → List ℕ → Option Nested → List ℕ → Type 0
PutsOrPasses v old None new = IsAppended v old new
PutsOrPasses v old (Some n) new = (nested_tree n ≡ v) × (new ≡ old)

-- all that was left of the container was appended
pub record PutsAll (from : Left) (old new : List ℕ) : Type 0 where
  pub bytes : new ≡ old ++ left_encodings from
  pub writable : LeftIsWritable from

-- what was left of the container was appended up to this value in it, behind which `behind` is left
pub record StopsAt (from : Left) (old : List ℕ) (v : Tree) (behind : Left) (new : List ℕ) : Type 0 where
  pub bytes : old ++ left_encodings from ≡ new ++ (encoding_of v ++ left_encodings behind)
  pub longer : length old ≤ length new
  pub typed : IsTyped v → LeftTyped behind → LeftTyped from
  pub nul : LeftHasNul from ↔ (HasNul v ⊎ LeftHasNul behind)
  pub large : LeftTooLarge from ↔ (IsTooLarge v ⊎ LeftTooLarge behind)

-- what was left of the container was appended up to its end, or up to the next container in it
abbrev pub PutsOn : Left → List ℕ → Option Stop → List ℕ → Type 0
PutsOn from old None new = PutsAll from old new
PutsOn from old (Some s) new = StopsAt from old (nested_tree s.nested) s.left new

-- the bytes once the pod that begins at the offset `start` is closed: it ends with the bytes, and its size word is written
abbrev pub closed_at : ℕ → List ℕ → List ℕ
closed_at start b = take start b ++ (word_bytes (begun_length b start) ++ drop (start + 4) b)

-- the bytes once what is left of the container that is begun is appended
abbrev pub filled : Begun → List ℕ → List ℕ
filled begun b = b ++ left_encodings begun.left

-- the header of the container with this tree was appended, and all in it is left
pub record Begins (v : Tree) (old : List ℕ) (begun : Begun) (new : List ℕ) : Type 0 where
  pub room : begun.start + header_size ≤ length new
  pub closed : closed_at begun.start (filled begun new) ≡ old ++ encoding_of v
  pub size : begun_length (filled begun new) begun.start ≡ length (encoded_body v)
  pub typed : LeftTyped begun.left → IsTyped v
  pub nul : HasNul v ↔ LeftHasNul begun.left
  pub large : IsTooLarge v ↔ ((size_limit ≤ length (encoded_body v)) ⊎ LeftTooLarge begun.left)
  pub shorter : length (left_encodings begun.left) + header_size ≤ length (encoding_of v)

-- A container is begun in these bytes: once what is left of it is appended and its size word is written, `holds` is true of them. What keeps the
-- container from being written, NUL or a size, keeps the whole value `v` from it.
pub record AwaitsClosing (holds : List ℕ → Type 0) (v : Tree) (begun : Begun) (now : List ℕ) : Type 0 where
  pub room : begun.start + header_size ≤ length now
  pub closes : LeftIsWritable begun.left → begun_length (filled begun now) begun.start < size_limit → holds (closed_at begun.start (filled begun now))
  pub past : size_limit ≤ begun_length (filled begun now) begun.start → IsTooLarge v
  pub nul : LeftHasNul begun.left → HasNul v
  pub large : LeftTooLarge begun.left → IsTooLarge v

-- containers are begun, each inside the next, the innermost first: once all are closed, the bytes are the encoding of the value `v`
abbrev pub AwaitsAllClosing : Tree → List Begun → List ℕ → Type 0
AwaitsAllClosing v [] now = IsAppended v [] now
AwaitsAllClosing v (inner ∷ outer) now = AwaitsClosing (AwaitsAllClosing v outer) v inner now

-- how many bytes are still to be written for the containers that are begun, and one more for each
abbrev pub bytes_left : List Begun → ℕ
bytes_left [] = 0
bytes_left (inner ∷ outer) = bytes_left outer + (length (left_encodings inner.left) + 1)
