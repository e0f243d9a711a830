-- The texts of the two sides: docs/NEGOTIATION.md, "Refusals".
use Rattle.std.specs.Prelude.{ℕ, List, codes}
use Rattle.spa_keyed_objects.specs.declared.side.Side.{Side}
use Rattle.spa_keyed_objects.specs.declared.side.Side.TheVariants.{First, Second}

-- the text as which a side is displayed
abbrev pub side_text : Side → List ℕ
side_text First = codes "first"
side_text Second = codes "second"
