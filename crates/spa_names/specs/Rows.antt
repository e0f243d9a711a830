-- The rows of the tables.
use Rattle.std.specs.Prelude.{ℕ, List, drop, get_or}
use Rattle.std.specs.Borrow.{Bor}
use Rattle.spa_names.specs.declared.entry.Expected.{Expected}
use Rattle.spa_names.specs.declared.entry.TheConstants.Expected.{NOTHING}
use Rattle.spa_names.specs.declared.key_entries.TheConstants.{EXPECTED}

-- a number, PipeWire's name for it, how many bytes of that are before its own name, and what is expected under it where it is a key
abbrev pub Row : Type 0
Row = ℕ × List ℕ × ℕ × Expected

-- the number's own name
abbrev pub name_in : Row → List ℕ
name_in row = drop row.2 row.1

-- a further name of a number, and the number
abbrev pub Naming : Type 0
Naming = List ℕ × ℕ

-- the row of an entry of the code
abbrev pub row_of : ℕ × Bor (List ℕ) × ℕ × ℕ → Row
row_of entry = (entry.0, entry.1.now, entry.2, get_or EXPECTED entry.3 NOTHING)

-- the naming of one of the code
abbrev pub naming_of : Bor (List ℕ) × ℕ → Naming
naming_of naming = (naming.0.now, naming.1)
