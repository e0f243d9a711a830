-- The refusals of a write: docs/FORMAT.md, "Values that can be written".
use Rattle.std.specs.Prelude.{◌≡◌, ℕ, codes, List, [], ◌++◌}
use Rattle.spa_sink.specs.declared.gen_error.GenError.{GenError}
use Rattle.spa_sink.specs.declared.gen_error.GenError.TheVariants.{Full, TooLarge, NulInText, WrongCount, Failed, Io, OutOfMemory}

-- the text as which a refusal is displayed: its name
abbrev pub error_text : GenError → List ℕ
error_text Full = codes "Full"
error_text TooLarge = codes "TooLarge"
error_text NulInText = codes "NulInText"
error_text WrongCount = codes "WrongCount"
error_text Failed = codes "Failed"
error_text Io = codes "Io"
error_text OutOfMemory = codes "OutOfMemory"

-- The refusal is NulInText where `nul` holds, TooLarge where `large` does, or any other where `other` does.
abbrev pub RefusedFor : Type 0 → Type 0 → (GenError → Type 0) → GenError → Type 0
RefusedFor nul large other Full = other Full
RefusedFor nul large other TooLarge = large
RefusedFor nul large other NulInText = nul
RefusedFor nul large other WrongCount = other WrongCount
RefusedFor nul large other Failed = other Failed
RefusedFor nul large other Io = other Io
RefusedFor nul large other OutOfMemory = other OutOfMemory

-- The refusal of a write: a text holds NUL, a size doesn't fit a word of 32 bits, or the sink refused.
-- It is a record, so that lemmas find its arguments.
pub record RefusesWrite (nul large : Type 0) (lacks : GenError → Type 0) (e : GenError) : Type 0 where
  pub cause : RefusedFor nul large lacks e

-- The refusal of a write, where one for a text or a size comes before a byte is appended.
abbrev pub RefusesPiece : {S : Type 0} → Type 0 → Type 0 → (GenError → Type 0) → S → S → GenError → Type 0
RefusesPiece nul large lacks old new = RefusesWrite (nul × (new ≡ old)) (large × (new ≡ old)) lacks

-- the sink may refuse `n` bytes with this error, whatever the sink is after that
abbrev pub MayRefuse : {S : Type 0} → (S → ℕ → S → GenError → Type 0) → S → ℕ → GenError → Type 0
MayRefuse refuses old n e = (new : _) × refuses old n new e

-- these bytes were appended; where there are none, the sink may not have been called
pub data Sent {S : Type 0} (appends : S → List ℕ → S → Type 0) (old : S) (bytes : List ℕ) (new : S) : Type 0 where
  none_sent : bytes ≡ [] → old ≡ new → Sent appends old bytes new
  some_sent : appends old bytes new → Sent appends old bytes new

-- a beginning of these bytes was appended, and nothing else
pub record Begun {S : Type 0} (appends : S → List ℕ → S → Type 0) (old : S) (bytes : List ℕ) (new : S) : Type 0 where
  pub first : List ℕ
  pub left : List ℕ
  pub parts : bytes ≡ first ++ left
  pub sent : Sent appends old first new
