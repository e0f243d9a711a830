-- What the tables of names say. No proof here looks into a table.
use Rattle.std.specs.Prelude.{ℕ, List, Option}
use Rattle.spa_names.specs.declared.entry.Expected.{Expected}
use Rattle.spa_names.specs.declared.table.Table.{Table}
use Rattle.spa_names.specs.Lookup as names

-- the number of a name
unfoldable pub number_of : Table → List ℕ → Option ℕ
number_of t s = names.number_of t s

-- the name of a number
unfoldable pub name_of : Table → ℕ → Option (List ℕ)
name_of t n = names.name_of t n

-- the tables of an object's keys and ids, by its type
unfoldable pub keys_of : ℕ → Table
keys_of t = names.keys_of (record { 0 = t })

unfoldable pub ids_of : ℕ → Table
ids_of t = names.ids_of (record { 0 = t })

-- what is expected under a key
unfoldable pub expected_under : Table → ℕ → Expected
expected_under t k = names.expected_under t k
