-- Texts that a reader takes as they are, in another order, or as pw-dump prints them: docs/TEXT.md, "Texts in another order".
use Rattle.std.specs.Prelude.{◌≡◌, ◌⊎◌, ℕ, List, [], Some}
use Rattle.json.specs.Json.{Json, document}
use Rattle.json.specs.Lex.{tokens}
use Rattle.json.specs.Token.{Token}
use Rattle.spa_format.specs.Tree.{Tree}
use Rattle.spa_text_read.specs.Fitting.{Admits}
use Rattle.spa_text_read.specs.Grammar.{IsTextOf, ReadsAs, nothing}
use Rattle.spa_text_read.specs.Places.{IsPlace}
use Rattle.spa_text_read.specs.declared.fitting.Strictness.{Strictness}
use Rattle.spa_text_read.specs.declared.fitting.Strictness.TheVariants.{Strict}
use Rattle.spa_text_forms.specs.Dump.{dump_of}
use Rattle.spa_text_forms.specs.Order.{anywhere, ordered, without_place}
use Rattle.spa_text_forms.specs.declared.form.Form.{Form}
use Rattle.spa_text_forms.specs.declared.form.Form.TheVariants.{Named, Dump}

-- the tokens of a JSON value in the grammar's order: as it names them, without its place, or of what pw-dump prints
abbrev pub tokens_in : Form → Json → List Token
tokens_in (Named s) j = ordered s anywhere (without_place j)
tokens_in (Dump t i) j = dump_of t i j

-- how strictly these are read
abbrev pub strictness_in : Form → Strictness
strictness_in (Named s) = s
strictness_in (Dump t i) = Strict

-- the second text has these tokens of the first, which is JSON
abbrev pub IsInOrder : Form → (text other : List ℕ) → Type 0
IsInOrder f text other = (j : Json) × (document text ≡ Some j) × (tokens other ≡ tokens_in f j)

-- the text as it stands is one of this value, which a reader of this strictness takes
abbrev pub IsTextAsItStands : Strictness → Tree → List ℕ → Type 0
IsTextAsItStands s v text = IsTextOf v text × Admits s v

-- the text is JSON, and its tokens in the grammar's order are a text of this value, which a reader of this strictness takes
abbrev pub IsTextInOrder : Form → Tree → List ℕ → Type 0
IsTextInOrder f v text = (j : Json) × (document text ≡ Some j) × ReadsAs nothing v (tokens_in f j) [] × Admits (strictness_in f) v

-- the text is one of this value as it stands; or it is of none as it stands, and one of this value in order
abbrev pub IsTextFor : Strictness → Tree → List ℕ → Type 0
IsTextFor s v text = IsTextAsItStands s v text ⊎ (((w : Tree) → ¬ (IsTextAsItStands s w text)) × IsTextInOrder (Named s) v text)

-- the text is one of this value in this form: what pw-dump prints is never read as it stands
abbrev pub IsTextAs : Form → Tree → List ℕ → Type 0
IsTextAs (Named s) v text = IsTextFor s v text
IsTextAs (Dump t i) v text = IsTextInOrder (Dump t i) v text

-- the path leads to a token of the text, as it stands or in order
abbrev pub IsPlaceFor : Form → List ℕ → List ℕ → Type 0
IsPlaceFor f text path = IsPlace (tokens text) path ⊎ ((j : Json) × (document text ≡ Some j) × IsPlace (tokens_in f j) path)
