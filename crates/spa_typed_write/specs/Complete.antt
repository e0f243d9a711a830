-- Writes that are refused only where they have to be: docs/FORMAT.md, "Values that can be written".
use Rattle.std.specs.Prelude.{◌≡◌, ◌⊎◌, ℕ, ◌+◌, ◌<◌, List, ◌++◌, length}
use Rattle.spa_sink.specs.declared.gen_error.GenError.{GenError}
use Rattle.spa_sink.specs.declared.gen_error.GenError.TheVariants.{Full}
use Rattle.spa_sink.specs.Writing.{MayRefuse, RefusedFor}
use Rattle.spa_format.specs.Tree.{Tree, Trees, Properties}
use Rattle.spa_format.specs.Encoding.{encoding_of, member_encodings, property_encodings}
use Rattle.spa_format.specs.Typed.{AllPropertiesTyped, AllTyped, IsTyped}
use Rattle.spa_format.specs.Writable.{HasNul, IsTooLarge, IsWritable, SomeHasNul, SomeTooLarge, SomeValueHasNul, SomeValueTooLarge}
use Rattle.spa_bodies.specs.Written.{IsExtended, Refusing}
use Rattle.spa_canonical.specs.Depth.{depth_of, member_depth, property_depth}
use Rattle.spa_write.specs.DeepValues.{LacksMemory}

-- why a value that is neither a struct nor an object isn't written: a text in it holds NUL, a size doesn't fit a word of 32 bits, or the output may
-- refuse its bytes
abbrev pub MayRefuseLeaf : {S : Type 0} → Refusing S → S → Tree → GenError → Type 0
MayRefuseLeaf refuses old v e = RefusedFor (HasNul v) (IsTooLarge v) (λ _. ⊥) e ⊎ MayRefuse refuses old (length (encoding_of v)) e

-- Why a value can't be written: a text in it holds NUL, a size doesn't fit a word of 32 bits, or it nests in more than 512 levels and memory ran
-- out.
abbrev pub Unwritable : Tree → GenError → Type 0
Unwritable v = RefusedFor (HasNul v) (IsTooLarge v) (LacksMemory (depth_of v))

-- why a value isn't written behind the first `used` bytes of an output of fixed size: it can't be written, or it doesn't fit
abbrev pub RefusesAtLimit : ℕ → ℕ → Tree → GenError → Type 0
RefusesAtLimit used limit v =
    RefusedFor (HasNul v) (IsTooLarge v)
    (λ e. LacksMemory (depth_of v) e ⊎ (e ≡ Full) × (limit < used + length (encoding_of v)))

-- The refusal of `n` bytes of values that nest in `depth` levels: a text in them holds NUL, a size doesn't fit a word of 32 bits, memory ran out
-- for what nests in more than 512 levels, or the output as it was may refuse `n` bytes. It is a record, so that lemmas find its arguments.
pub record RefusesBytes {S : Type 0} (refuses : Refusing S) (old : S) (nul large : Type 0) (depth n : ℕ) (e : GenError) : Type 0 where
  pub cause : RefusedFor nul large (LacksMemory depth) e ⊎ MayRefuse refuses old n e

-- why a value isn't written: it can't be written, or the output may refuse its bytes
abbrev pub RefusesValue : {S : Type 0} → Refusing S → S → Tree → GenError → Type 0
RefusesValue refuses old v = RefusesBytes refuses old (HasNul v) (IsTooLarge v) (depth_of v) (length (encoding_of v))

-- why members aren't written: one of them can't be written, or the output may refuse their bytes
abbrev pub RefusesMembers : {S : Type 0} → Refusing S → S → Trees → GenError → Type 0
RefusesMembers refuses old vs = RefusesBytes refuses old (SomeHasNul vs) (SomeTooLarge vs) (member_depth vs) (length (member_encodings vs))

-- why properties aren't written: a value can't be written, or the output may refuse their bytes
abbrev pub RefusesProperties : {S : Type 0} → Refusing S → S → Properties → GenError → Type 0
RefusesProperties refuses old ps =
    RefusesBytes refuses old (SomeValueHasNul ps) (SomeValueTooLarge ps) (property_depth ps) (length (property_encodings ps))

-- an output still holds the bytes that it held, and behind them bytes that are `written` of something
pub record KeepsBytes {S : Type 0} (content : S → List ℕ) (old : S) (written : List ℕ → Type 0) (new : S) : Type 0 where
  pub behind : List ℕ
  pub bytes : content new ≡ content old ++ behind
  pub part : written behind

-- the encoding of this value, which can be written, was appended to an output
pub record IsWritten {S : Type 0} (content : S → List ℕ) (refuses : Refusing S) (old : S) (v : Tree) (new : S) : Type 0 where
  pub extended : IsExtended content refuses old (encoding_of v) new
  pub typed : IsTyped v
  pub writable : IsWritable v

-- the encodings of these members, which can be written, were appended to an output one after another
pub record AreWritten {S : Type 0} (content : S → List ℕ) (refuses : Refusing S) (old : S) (vs : Trees) (new : S) : Type 0 where
  pub extended : IsExtended content refuses old (member_encodings vs) new
  pub typed : AllTyped vs
  pub no_nul : ¬ (SomeHasNul vs)
  pub fits : ¬ (SomeTooLarge vs)

-- these properties, whose values can be written, were appended to an output one after another, each with key and flags
pub record ArePropertiesWritten {S : Type 0} (content : S → List ℕ) (refuses : Refusing S) (old : S) (ps : Properties) (new : S) : Type 0 where
  pub extended : IsExtended content refuses old (property_encodings ps) new
  pub typed : AllPropertiesTyped ps
  pub no_nul : ¬ (SomeValueHasNul ps)
  pub fits : ¬ (SomeValueTooLarge ps)
