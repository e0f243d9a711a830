-- The law of reading: docs/TEXT.md, "The grammar".
use Rattle.std.specs.Prelude.{◌≡◌, List}
use Rattle.json.specs.Token.{Token}
use Rattle.spa_format.specs.Tree.{Tree}
use Rattle.spa_names.specs.declared.entry.Expected.{Expected}
use Rattle.spa_text_read.specs.Grammar.{ReadsAs}

-- tokens that are read twice with the same expected type are read as the same value, and leave the same tokens behind it
abbrev pub ReadsOneValue : Type 0
ReadsOneValue = (c : Expected) (v w : Tree) (ts rest left : List Token) → ReadsAs c v ts rest → ReadsAs c w ts left → (v ≡ w) × (rest ≡ left)
