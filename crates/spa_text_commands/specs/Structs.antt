-- Structs that are read from a text member by member. Only private clauses cite it.
use Rattle.std.specs.Prelude.{◌≡◌, Bool, List, ℕ, ◌++◌, Some}
use Rattle.json.specs.Json.{after_end_array}
use Rattle.json.specs.Token.{Token}
use Rattle.spa_format.specs.Encoding.{encoding_of}
use Rattle.spa_format.specs.Tree.{Tree}
use Rattle.spa_text_read.specs.Fitting.{Admits}
use Rattle.spa_text_read.specs.Grammar.{ReadsAs, a_struct, begun, close, nothing, opens}
use Rattle.spa_text_read.specs.Tokens.{head}
use Rattle.spa_text_read.specs.declared.fitting.Strictness.{Strictness}

-- bytes may have been appended
abbrev pub IsLonger : (old new : List ℕ) → Type 0
IsLonger old new = (more : List ℕ) × (new ≡ old ++ more)

-- the tokens begin with a value that a reader of this strictness takes, and its pod was appended
abbrev pub AddsFront : Strictness → (tokens behind : List Token) → (old new : List ℕ) → Type 0
AddsFront s ts us old new = (v : Tree) × ReadsAs nothing v ts us × Admits s v × (new ≡ old ++ encoding_of v)

-- a struct begins with the first tokens, and its members follow
abbrev pub BeginsStruct : (braced : Bool) → (tokens behind : List Token) → Type 0
BeginsStruct b ts us = (h : Token) × (ws : List Token) × (head ts ≡ Some (h, ws)) × (opens nothing h ws ≡ Some (begun (a_struct b), us))

-- a struct ends with the first tokens
abbrev pub EndsStruct : (braced : Bool) → (tokens behind : List Token) → Type 0
EndsStruct b ts us = (ws : List Token) × (after_end_array ts ≡ Some ws) × (close b ws ≡ Some us)
