-- How the frames are stored: the outer ones in a list, the innermost by itself, and beside them the offset of the outermost.
use Rattle.std.specs.Prelude.{◌≡◌, ◌+◌, ◌-◌, ◌<◌, ℕ, List, [], ◌∷◌, ◌++◌, Bool, true, false, cond}
use Rattle.spa_format.specs.Words.{header_size, size_limit}
use Rattle.spa_spare_capacity.specs.Limits.{vector_limit}
use Rattle.spa_builder.specs.Innermost.{most_padding}
use Rattle.spa_builder.specs.declared.begun.BegunPod.{BegunPod}
use Rattle.spa_builder.specs.declared.begun.What.{What}
use Rattle.spa_builder.specs.declared.begun.Stage.{Stage}
use Rattle.spa_builder.specs.declared.begun.Stage.TheVariants.{Nothing}

-- no pod is open at this stage
abbrev pub no_stage : Stage → Bool
no_stage Nothing = true
no_stage _ = false

-- no pod is open in this frame
abbrev pub is_nothing : What → Bool
is_nothing w = no_stage w.stage

-- a frame with its elements, at another stage
abbrev pub at_stage : What → Stage → What
at_stage w stage = record { stage = stage; elements = w.elements }

-- the frames, the outermost first: where no pod is open in the innermost, there are only the outer ones
abbrev pub frames_in : List BegunPod → BegunPod → List BegunPod
frames_in outer o = cond (is_nothing o.what) outer (outer ++ o ∷ [])

-- The least length in bytes of an open tree, with its header, that its size word can't hold. Where a tree is open inside it, padding may
-- follow.
abbrev pub most_bytes : Bool → ℕ
most_bytes true = size_limit + header_size
most_bytes false = size_limit + header_size - most_padding

-- Beside the frames are the offset of the outermost, and the length of the vector from which on its size word can't hold its size.
pub record IsKept (outer : List BegunPod) (innermost : BegunPod) (first end : ℕ) : Type 0 where
  pub none : is_nothing innermost.what ≡ true → outer ≡ []
  pub only : outer ≡ [] → (first ≡ innermost.start) × (end ≡ first + most_bytes true)
  pub more : (o : BegunPod) (rest : List BegunPod) → outer ≡ o ∷ rest → (first ≡ o.start) × (end ≡ first + most_bytes false)
  pub low : first < vector_limit

-- bytes were appended to the old ones
abbrev pub IsGrown : List ℕ → List ℕ → Type 0
IsGrown old new = (more : List ℕ) × (new ≡ old ++ more)
