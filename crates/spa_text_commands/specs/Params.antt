-- Objects as pw-dump prints params: docs/TEXT.md, "What `pw-dump` prints".
use Rattle.std.specs.Prelude.{◌≡◌, ◌<◌, ⊤, ℕ, true, false, Bool, List, Option, None, Some, length}
use Rattle.std.specs.Borrow.{Bor}
use Rattle.json.specs.Tree.{HasNumbers, json_tokens, members_tokens}
use Rattle.json.specs.Value.{members_view, value_view}
use Rattle.json.specs.declared.value.Value.{Value as Json}
use Rattle.spa_format.specs.Pod.{AreMembers}
use Rattle.spa_format.specs.Tree.{Tree, object, Trees}
use Rattle.spa_text.specs.Line.{HasNoEnd}
use Rattle.spa_text_forms.specs.Forms.{IsTextAs}
use Rattle.spa_text_forms.specs.declared.form.Form.{Form}
use Rattle.spa_text_forms.specs.declared.form.Form.TheVariants.{Dump}
use Rattle.spa_text_commands.specs.Texts.{AreTexts, HasRefused}
use Rattle.spa_text_commands.specs.Unread.{AddsTextLine}
use Rattle.spa_text_commands.specs.declared.answer.Failure.{Failure}
use Rattle.spa_text_commands.specs.declared.answer.Failure.TheVariants as failure
use Rattle.spa_text_commands.specs.declared.params.Unprinted.{Unprinted}
use Rattle.spa_text_commands.specs.declared.params.Unprinted.TheVariants.{NoPods, NoForm, OutOfMemory}

-- the form of the params that an object is of: they have its type and its id
abbrev pub form_of : Tree → Option Form
form_of (object t i ps) = Some (Dump t i)
form_of _ = None

-- the text has one line, and is one of this value in this form
abbrev pub IsParamIn : Option Form → Tree → List ℕ → Type 0
IsParamIn None v text = ⊥
IsParamIn (Some f) v text = IsTextAs f v text × HasNoEnd text

-- the text is one of a value, an object, as of params of its type and its id
abbrev pub IsParam : Tree → List ℕ → Type 0
IsParam v text = IsParamIn (form_of v) v text

-- such a text for each pod that the input consists of, and the end of its line
abbrev pub PrintsParams : (input out : List ℕ) → Type 0
PrintsParams input out = (vs : Trees) × AreMembers vs input × AreTexts IsParam vs out

-- why it isn't printed: nothing is said of a value for which pw-dump has no form
abbrev pub RefusesParams : (input : List ℕ) → Unprinted → Type 0
RefusesParams input NoPods = HasRefused input
RefusesParams input NoForm = ⊤
RefusesParams input OutOfMemory = ⊤

-- ---- Only private clauses cite these.

-- why pods aren't read is why they aren't printed
abbrev pub cause_of : Failure → Unprinted
cause_of failure.NoPods = NoPods
cause_of _ = OutOfMemory

-- the line of a value was added, or nothing was
abbrev pub AddsParam : Tree → (old new : List ℕ) → (is_added : Bool) → Type 0
AddsParam v old new true = AddsTextLine IsParam v old new
AddsParam v old new false = new ≡ old

-- the value is one of these members', which have numbers
pub record IsValueIn {A : Type 0} (value : Json A) (members : List (Bor (List ℕ) × Json A)) : Type 0 where
  pub numbers : HasNumbers (value_view value)
  pub fewer : length (json_tokens (value_view value)) < length (members_tokens (members_view members))
