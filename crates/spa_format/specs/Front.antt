-- The front of an input, the bytes of the pod that its first size word names: docs/FORMAT.md, "The front of an input".
use Rattle.std.specs.Prelude.{ℕ, ◌≤◌, List, length, take, drop}
use Rattle.spa_format.specs.Words.{word_at, header_size, extent}
use Rattle.spa_format.specs.Tree.{Tree}
use Rattle.spa_format.specs.Pod.{IsPod}

-- a whole pod, with its padding, is at the front of the input
pub record HasFront (input : List ℕ) : Type 0 where
  pub header : header_size ≤ length input
  pub whole : extent (word_at input 0) ≤ length input

-- the bytes of the pod at the front, with its padding
abbrev pub front_of : List ℕ → List ℕ
front_of input = take (extent (word_at input 0)) input

-- the bytes of the input behind the front
abbrev pub rest_of : List ℕ → List ℕ
rest_of input = drop (extent (word_at input 0)) input

-- the front of the input is there and is a pod of this value
pub record Begins (input : List ℕ) (v : Tree) : Type 0 where
  pub there : HasFront input
  pub pod : IsPod (front_of input) v

-- the input is refused: its front isn't there, or is a pod of no value
abbrev pub IsRefused : List ℕ → Type 0
IsRefused input = (v : Tree) → ¬ (Begins input v)
