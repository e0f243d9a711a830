-- Names: docs/TEXT.md, "Names".
use Rattle.std.specs.Prelude.{◌≡◌, ℕ, List, Option, Some, IsSome, ◌==◌}
use Rattle.std.specs.List.{find}
use Rattle.std.specs.Option.{option_map, option_map_or}
use Rattle.std.specs.Str.{bytes_eq}
use Rattle.spa_utils.specs.declared.types.SpaTypes.{SpaTypes}
use Rattle.spa_names.specs.declared.entry.Expected.{Expected}
use Rattle.spa_names.specs.declared.entry.TheConstants.Expected.{NOTHING}
use Rattle.spa_names.specs.declared.table.Table.{Table}
use Rattle.spa_names.specs.declared.table.Table.TheVariants.{Nothing}
use Rattle.spa_names.specs.declared.table.TheConstants.{OBJECTS}
use Rattle.spa_names.specs.Rows.{Row, name_in}
use Rattle.spa_names.specs.Tables.{rows_of, aliases_of}

-- a table's row of a number; None where it has none
abbrev pub row_at : Table → ℕ → Option Row
row_at table number = find (λ row. row.0 == number) (rows_of table)

-- the name of a number
abbrev pub name_of : Table → ℕ → Option (List ℕ)
name_of table number = option_map name_in (row_at table number)

-- PipeWire's own name for a number
abbrev pub path_of : Table → ℕ → Option (List ℕ)
path_of table number = option_map (λ row. row.1) (row_at table number)

-- what is expected of the value under a key
abbrev pub expected_under : Table → ℕ → Expected
expected_under keys key = option_map_or (λ row. row.3) (row_at keys key) NOTHING

-- the number of a further name
abbrev pub alias_of : Table → List ℕ → Option ℕ
alias_of table name = option_map (λ naming. naming.1) (find (λ naming. bytes_eq naming.0 name) (aliases_of table))

-- the number of a name, or of a further one
abbrev pub number_of : Table → List ℕ → Option ℕ
number_of table name = option_map_or (λ row. Some row.0) (find (λ row. bytes_eq (name_in row) name) (rows_of table)) (alias_of table name)

-- a type of objects, with the tables of its keys and of its ids
abbrev pub object_at : ℕ → Option (ℕ × Table × Table)
object_at type = find (λ object. object.0 == type) OBJECTS

-- the table of the keys of objects of a type
abbrev pub keys_of : SpaTypes → Table
keys_of type = option_map_or (λ object. object.1) (object_at type.0) Nothing

-- the table of the ids of objects of a type
abbrev pub ids_of : SpaTypes → Table
ids_of type = option_map_or (λ object. object.2) (object_at type.0) Nothing

-- a name is given only where looking it up gives the number back
abbrev pub NamesComeBack : Type 0
NamesComeBack = (table : Table) (number : ℕ) (name : List ℕ) → name_of table number ≡ Some name → number_of table name ≡ Some number

-- a number that has a name is given one: that, or another of its names
abbrev pub NumbersAreNamed : Type 0
NumbersAreNamed = (table : Table) (number : ℕ) (name : List ℕ) → number_of table name ≡ Some number → IsSome (name_of table number)
