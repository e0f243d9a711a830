-- The state of a parser, which is what is left to read: docs/FORMAT.md, "Taking pods one by one".
use Rattle.std.specs.Prelude.{ℕ, List, [], ◌∷◌, Bool, false, Option, None, length, slice_get, if◌then◌else◌}
use Rattle.spa_format.specs.Words.{body_of}
use Rattle.spa_format.specs.Front.{rest_of}
use Rattle.spa_format.specs.Walk.{walk}

-- the remaining bytes of the input, or of an open body, which may be an object's
pub record Remainder : Type 0 where
  pub bytes : List ℕ
  pub of_object : Bool

-- the innermost remainder, then those around it; the input's own is the last
pub record ParserState : Type 0 where
  pub innermost : Remainder
  pub outer : List Remainder

-- at the front of an input, with nothing open
abbrev pub start_of : List ℕ → ParserState
start_of input = record { innermost = record { bytes = input; of_object = false }; outer = [] }

-- how many frames are open
abbrev pub open_count : ParserState → ℕ
open_count s = length s.outer

-- the first pod of the walk over the remaining bytes; None inside an object
abbrev pub next_of : Remainder → Option (List ℕ)
next_of r = if r.of_object then None else slice_get (walk r.bytes) 0

-- the remainder behind the next pod
abbrev pub behind_next : Remainder → Remainder
behind_next r = record r { bytes = rest_of r.bytes }

-- the pod that the next call gets
abbrev pub next_pod : ParserState → Option (List ℕ)
next_pod s = next_of s.innermost

-- the state behind the next pod
abbrev pub state_behind : ParserState → ParserState
state_behind s = record s { innermost = behind_next s.innermost }

-- the state inside that pod: its body is innermost, and in the one around it the bytes behind the pod are left
abbrev pub state_inside : List ℕ → (is_object : Bool) → ParserState → ParserState
state_inside pod is_object s = record {
  innermost = record { bytes = body_of pod; of_object = is_object };
  outer = behind_next s.innermost ∷ s.outer;
}
