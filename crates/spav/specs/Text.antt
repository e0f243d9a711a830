-- Pods as text with names: docs/TEXT.md.
use Rattle.std.specs.Prelude.{◌≡◌, ◌⊎◌, ℕ, List}
use Rattle.std.specs.Str.{IsUtf8}
use Rattle.spa_format.specs.Tree.{Tree}
use Rattle.spa_format.specs.Writable.{HasNul}
use Rattle.spa_text.specs.Line.{HasNoEnd}
use Rattle.spa_text.specs.Printed.{HasNoFloat, line_of}
use Rattle.spa_text_read.specs.Grammar.{IsTextOf}

-- this is a text of the value, on one line; of a value without floats the one that is printed of it
pub record IsJsonOf (value : Tree) (text : List ℕ) : Type 0 where
  pub utf8 : IsUtf8 text
  pub reads : IsTextOf value text
  pub line : HasNoEnd text
  pub exact : HasNoFloat value → text ≡ line_of value

-- the bytes aren't UTF-8, or no text of a value, or that of one with NUL in a string, of which no pod is
abbrev pub HasNoPod : List ℕ → Type 0
HasNoPod bytes = ¬ (IsUtf8 bytes) ⊎ ((v : Tree) → ¬ (IsTextOf v bytes)) ⊎ ((v : Tree) × IsTextOf v bytes × HasNul v)
