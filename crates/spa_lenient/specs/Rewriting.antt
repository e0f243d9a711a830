-- The lenient rewriting: docs/FORMAT.md, "The lenient reading".
use Rattle.std.specs.Prelude.{⊤, ◌≡◌, ◌≢◌, ◌++◌, List, [], ℕ, drop, length}
use Rattle.std.specs.Borrow.{Bor}
use Rattle.spa_fixed_sized.specs.declared.fault.DeserializeError.{DeserializeError}
use Rattle.spa_format.specs.Tree.{Tree, Trees, struct}
use Rattle.spa_format.specs.Encoding.{encoding_of, member_encodings}
use Rattle.spa_format.specs.Front.{HasFront}
use Rattle.spa_format.specs.Lenient.{ConveyMembers}
use Rattle.spa_rewrite.specs.Refusals.{IsFaultOf}
use Rattle.spa_bodies.specs.Reading.{IsShortAt, Names, OnFault, OnMemory}
use Rattle.spa_canonical.specs.Rewriting.{AreRewritten}
use Rattle.spa_read.specs.Reading.{ConveysAtFront, ConveysNothing, ConveysWith, StandsLeniently}

-- the front of the input conveys a value, and `out` is its encoding
abbrev pub IsLenientRewriting : List ℕ → List ℕ → Type 0
IsLenientRewriting input out = (v : Tree) × ConveysAtFront input v × (out ≡ encoding_of v)

-- the front of the input conveys a value, its encoding was appended, and `rest` follows the front
abbrev pub AppendsFront : List ℕ → List ℕ → List ℕ → List ℕ → Type 0
AppendsFront input rest old new = (v : Tree) × ConveysWith input v rest × (new ≡ old ++ encoding_of v)

-- the encoding of a struct of the values that these bytes convey was appended
abbrev pub AppendsStruct : List ℕ → List ℕ → List ℕ → Type 0
AppendsStruct body old new = (vs : Trees) × ConveyMembers vs body × (new ≡ old ++ encoding_of (struct vs))

-- zero or more first bytes are pods, whose encodings were appended, and `rest` follows them
abbrev pub AppendsFirst : List ℕ → List ℕ → List ℕ → List ℕ → Type 0
AppendsFirst input rest old new = (first : List ℕ) × (input ≡ first ++ rest) × AreRewritten first old new

-- zero or more bytes were appended, and nothing else was changed
abbrev pub Grows : List ℕ → List ℕ → Type 0
Grows old new = (added : List ℕ) × (new ≡ old ++ added)

-- the input conveys zero or more values, one after another without remainder, and their encodings were appended
abbrev pub AreRewrittenLeniently : List ℕ → List ℕ → List ℕ → Type 0
AreRewrittenLeniently input old new = (vs : Trees) × ConveyMembers vs input × (new ≡ old ++ member_encodings vs)

-- the input conveys zero or more values, one after another without remainder, and their encodings have `len` bytes
abbrev pub AreRewrittenLenientlyAs : List ℕ → ℕ → Type 0
AreRewrittenLenientlyAs input len = (vs : Trees) × ConveyMembers vs input × (len ≡ length (member_encodings vs))

-- zero or more first bytes convey values one after another, and `left` is left behind them
abbrev pub IsLeftLeniently : List ℕ → List ℕ → Type 0
IsLeftLeniently input left = (vs : Trees) × (first : List ℕ) × (input ≡ first ++ left) × ConveyMembers vs first × (left ≢ [])

-- The refusal of the front's lenient rewriting: as a lenient read is refused, but that memory may also run out for the encoding.
pub record RefusesFront (input : List ℕ) (e : DeserializeError (Bor (List ℕ))) : Type 0 where
  pub refused : OnFault (ConveysNothing input) e
  pub named : Names (λ fault place. StandsLeniently fault place input) e
  pub short_first : ¬ (HasFront input) → IsShortAt input e
  pub memory : OnMemory (HasFront input) e

-- The refusal of an input's lenient rewriting: the front of what is left behind zero or more first values is refused.
pub record RefusesList (input left : List ℕ) (e : DeserializeError (Bor (List ℕ))) : Type 0 where
  pub behind : IsLeftLeniently input left
  pub refused : OnFault ((vs : Trees) → ¬ (ConveyMembers vs input)) e
  pub front : RefusesFront left e

-- The refusal of an input's lenient rewriting at the offset `at`, without the place at which the fault stands.
pub record RefusesListAt (input : List ℕ) (at : ℕ) (e : DeserializeError ⊤) : Type 0 where
  pub placed : DeserializeError (Bor (List ℕ))
  pub list : RefusesList input (drop at input) placed
  pub same : IsFaultOf e placed
