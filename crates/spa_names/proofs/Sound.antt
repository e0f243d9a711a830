-- What is asked of a table, as tests.
use Rattle.std.proofs.Common.{ℕ, Bool, false, Option, Some, None, ◌==◌, ◌&&◌, get_or, is_some, length, nat_lt}
use Rattle.std.specs.List.{list_all}
use Rattle.std.specs.Ordering.{nat_cmp}
use Rattle.spa_names.specs.declared.table.Table.{Table}
use Rattle.spa_names.specs.Rows.{Row, name_in}
use Rattle.spa_names.specs.Tables.{rows_of, aliases_of}
use Rattle.spa_names.specs.Lookup.{name_of, number_of}
use Rattle.spa_names.proofs.Searching.{rises}

-- whether it is this number
abbrev pub is_number : Option ℕ → ℕ → Bool
is_number None number = false
is_number (Some found) number = found == number

-- whether the name begins with a character of ASCII
abbrev pub begins : Row → Bool
begins row = nat_lt row.2 (length row.1) && nat_lt (get_or row.1 row.2 0) 128

abbrev pub names_begin : Table → Bool
names_begin table = list_all begins (rows_of table)

abbrev pub numbers_rise : Table → Bool
numbers_rise table = rises nat_cmp (λ row. row.0) (rows_of table)

abbrev pub names_come_back : Table → Bool
names_come_back table = list_all (λ row. is_number (number_of table (name_in row)) row.0) (rows_of table)

abbrev pub numbers_are_named : Table → Bool
numbers_are_named table =
    list_all (λ row. is_some (name_of table row.0)) (rows_of table) && list_all (λ naming. is_some (name_of table naming.1)) (aliases_of table)

abbrev pub is_sound : Table → Bool
is_sound table = (names_begin table && numbers_rise table) && (names_come_back table && numbers_are_named table)
