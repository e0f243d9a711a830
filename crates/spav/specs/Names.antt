-- PipeWire's names of numbers: docs/CAPI.md, "Names and text".
use Rattle.std.specs.Prelude.{ℕ, nat_eq, if◌then◌else◌}
use Rattle.spa_names.specs.Lookup.{expected_under, ids_of, keys_of}
use Rattle.spa_names.specs.declared.table.Table.{Table}
use Rattle.spa_names.specs.declared.table.Table.TheVariants.{Types, Choices, Controls, Nothing}

-- The table of names that the numbers of the header's enum spav_names mean: of types, shapes and controls, of the keys and the ids of objects of a
-- type, and of the Ids under a key of such objects.
abbrev pub table_of : (names type key : ℕ) → Table
table_of names type key =
    if nat_eq names 0 then Types
    else (if nat_eq names 1 then Choices
    else (if nat_eq names 2 then Controls
    else (if nat_eq names 3 then keys_of (record { 0 = type })
    else (if nat_eq names 4 then ids_of (record { 0 = type })
    else (if nat_eq names 5 then (expected_under (keys_of (record { 0 = type })) key).ids
    else Nothing)))))
