-- The answer of a call, and the builder after it, by the outcome of the model's step.
use Rattle.std.specs.Prelude.{◌≡◌, ◌≢◌, ◌<◌, ◌≤◌, ◌⊎◌, ℕ, List, [], ◌++◌, length, true, false, None, Result, Ok, Err, IsErrAnd}
use Rattle.spa_format.specs.Words.{extent, size_limit}
use Rattle.spa_format.specs.Encoding.{encoded_body, encoding_of, member_encodings}
use Rattle.spa_format.specs.Kind.{Fixed, fixed_body, kind_of, type_number}
use Rattle.spa_format.specs.Pod.{IsPod}
use Rattle.spa_format.specs.Tree.{Tree, fixed, type_of}
use Rattle.spa_format.specs.Writable.{HasNul, IsTooLarge}
use Rattle.spa_canonical.specs.Depth.{depth_of, levels_looked_into}
use Rattle.spa_sink.specs.declared.gen_error.GenError.{GenError}
use Rattle.spa_sink.specs.declared.gen_error.GenError.TheVariants.{TooLarge, NulInText}
use Rattle.spa_builder.specs.State.{Partial, State}
use Rattle.spa_builder.specs.Step.{Call, Outcome, Accepts, Inval, Nospc, add, outcome_with_value, state_with_value, step, takes_trees}
use Rattle.spa_builder.specs.Fields.{BuilderFields, IsAt}
use Rattle.spa_builder.specs.Innermost.{has_room_for, takes_elements}
use Rattle.spa_utils.specs.declared.errno.Errno.{Errno}
use Rattle.spa_utils.specs.declared.errno.TheConstants.Errno.{NOMEM, INVAL, NOSPC}

-- A call's answer and effect are those of the model's step. A call that the step accepts may want memory. A refused call changes nothing.
abbrev pub Makes : {A : Type 0} → Outcome → BuilderFields → BuilderFields → Result A Errno → Type 0
Makes (Accepts s) old new (Ok x) = IsAt new s
Makes (Accepts s) old new (Err e) = (e ≡ NOMEM) × (new ≡ old)
Makes Inval old new (Ok x) = ⊥
Makes Inval old new (Err e) = (e ≡ INVAL) × (new ≡ old)
Makes Nospc old new (Ok x) = ⊥
Makes Nospc old new (Err e) = (e ≡ NOSPC) × (new ≡ old)

-- where the builder is at a state, the call's answer and effect are those of the model's step
abbrev pub MakesStep : {A : Type 0} → Call → BuilderFields → BuilderFields → Result A Errno → Type 0
MakesStep c old new r = (s : State) → IsAt old s → Makes (step s c) old new r

-- the value is allowed next only where a tree of any type is: it is no element
abbrev pub IsNoElement : State → Tree → Type 0
IsNoElement s v = takes_trees s.opened ≡ false → state_with_value s.closed s.opened v ≡ None

-- a value of this type and with this body, if it is no element, is added as the model adds it
abbrev pub AddsBody : (type : ℕ) → List ℕ → BuilderFields → BuilderFields → Result (Unit {0}) Errno → Type 0
AddsBody type body old new r = (s : State) (v : Tree) → IsAt old s → type_of v ≡ type → encoded_body v ≡ body → IsNoElement s v →
    Makes (outcome_with_value s v) old new r

-- a value with a body of this size and this encoding, if it is no element, is added as the model adds it
abbrev pub AddsEncoding : (size : ℕ) → List ℕ → BuilderFields → BuilderFields → Result (Unit {0}) Errno → Type 0
AddsEncoding size encoding old new r = (s : State) (v : Tree) → IsAt old s → length (encoded_body v) ≡ size → encoding_of v ≡ encoding →
    IsNoElement s v → Makes (outcome_with_value s v) old new r

-- where elements are taken, a value of fixed size with this type and this body is added as the model adds it
abbrev pub AddsElement : (type : ℕ) → List ℕ → BuilderFields → BuilderFields → Result (Unit {0}) Errno → Type 0
AddsElement type body old new r = (s : State) (x : Fixed) → IsAt old s → type_number (kind_of x) ≡ type → fixed_body x ≡ body →
    takes_elements s.opened ≡ true → Makes (outcome_with_value s (fixed x)) old new r

-- A value that is allowed next is walked, and the first obstacle is answered: want of memory, or a size in it that doesn't fit a word
-- of 32 bits. Nothing is changed.
pub record StopsInside (s : State) (v : Tree) (old new : BuilderFields) (r : Result (Unit {0}) Errno) : Type 0 where
  pub place : state_with_value s.closed s.opened v ≢ None
  pub cause : IsErrAnd r (λ e. (e ≡ NOMEM) ⊎ ((e ≡ NOSPC) × IsTooLarge v))
  pub same : new ≡ old

-- a value is added as the model adds it, or the walk of the value stopped that
abbrev pub MakesValue : State → Tree → BuilderFields → BuilderFields → Result (Unit {0}) Errno → Type 0
MakesValue s v old new r = Makes (step s (add v)) old new r ⊎ StopsInside s v old new r

-- A pod's value is added as the model adds it, but that memory may also run out for reading it. A pod of no value is refused, and nothing changed.
pub record MakesPod (s : State) (b : List ℕ) (old new : BuilderFields) (r : Result (Unit {0}) Errno) : Type 0 where
  pub value : (v : Tree) → IsPod b v → MakesValue s v old new r
  pub none : ((v : Tree) → ¬ (IsPod b v)) → IsErrAnd r (λ e. (e ≡ INVAL) ⊎ (e ≡ NOMEM)) × (new ≡ old)

-- a canonical pod of this value, whose nesting depth is at most the levels that are looked into, where a value of any type is allowed
pub record IsCopied (s : State) (b : List ℕ) (v : Tree) : Type 0 where
  pub place : takes_trees s.opened ≡ true
  pub pod : IsPod b v
  pub own : b ≡ encoding_of v
  pub shallow : depth_of v ≤ levels_looked_into

-- why a value can't be written
abbrev pub RefusesValue : Tree → Errno → Type 0
RefusesValue v e = ((e ≡ INVAL) × HasNul v) ⊎ ((e ≡ NOMEM) ⊎ ((e ≡ NOSPC) × IsTooLarge v))

-- the builder's error for an error of the writer
abbrev pub errno_of : GenError → Errno
errno_of NulInText = INVAL
errno_of TooLarge = NOSPC
errno_of _ = NOMEM

-- The bytes begin with the encodings of the closed values, and are these encodings where no tree is open.
pub record Spells (bytes : List ℕ) (s : State) : Type 0 where
  pub begin : (rest : List ℕ) × (bytes ≡ member_encodings s.closed ++ rest)
  pub all : s.opened ≡ [] → bytes ≡ member_encodings s.closed

-- The answer is whether a value with a body of this size is allowed next: INVAL where no value but an element is, else NOSPC where
-- a size wouldn't fit a word of 32 bits.
abbrev pub IsAdmitted : ℕ → List Partial → Result (Unit {0}) Errno → Type 0
IsAdmitted size ps (Ok x) = (takes_trees ps ≡ true) × (size < size_limit) × (has_room_for (extent size) ps ≡ true)
IsAdmitted size ps (Err e) = ((e ≡ INVAL) × (takes_trees ps ≡ false)) ⊎ ((e ≡ NOSPC) × (takes_trees ps ≡ true) × ((size_limit ≤ size) ⊎ ((size < size_limit) × (has_room_for (extent size) ps ≡ false))))
