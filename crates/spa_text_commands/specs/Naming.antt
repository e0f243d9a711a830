-- Names that types, ids and keys of objects have: docs/TEXT.md, "A part of an input".
use Rattle.std.specs.Prelude.{◌≡◌, ◌<◌, ◌≤◌, ◌+◌, ◌^◌, ◌&&◌, ◌||◌, ℕ, Bool, true, false, List, nat_le, nat_lt}
use Rattle.std.specs.List.{All}
use Rattle.spa_names.specs.Lookup.{ids_of, keys_of}
use Rattle.spa_names.specs.declared.table.Table.{Table}
use Rattle.spa_names.specs.declared.table.Table.TheVariants.{Types}
use Rattle.spa_text_commands.specs.Selection.{is_named, names_in}
use Rattle.spa_text_commands.specs.declared.naming.Named.{Named}
use Rattle.spa_text_commands.specs.declared.naming.Named.TheVariants as named

-- the table of the names of types, or of those of the ids or the keys of objects of this type
abbrev pub table_of : Named → (type : ℕ) → Table
table_of named.Types type = Types
table_of named.Ids type = ids_of (record { 0 = type })
table_of named.Keys type = keys_of (record { 0 = type })

-- a type, or an id or a key of objects of some type, has this name, or this number
abbrev pub IsName : Named → (name : List ℕ) → Type 0
IsName what name = (type : ℕ) × (number : ℕ) × (number < 2 ^ 32) × (is_named (table_of what type) number name ≡ true)

-- each of several names is one of a type, an id or a key
abbrev pub AreNames : Named → (names : List ℕ) → Type 0
AreNames what names = All (IsName what) (names_in names)

-- Types, ids and keys that have names are counted from 0 and from the starts of PipeWire's headers, `SPA_PROP_START_Device`,
-- `SPA_TYPE_COMMAND_START` and their like: 0x100, 0x10000, 0x20000, 0x30000, 0x40000, 0x80000. There are fewer than 32 from each. Only private
-- clauses cite these.
abbrev pub is_counted_from : (start number : ℕ) → Bool
is_counted_from start number = nat_le start number && nat_lt number (start + 32)

abbrev pub is_counted : ℕ → Bool
is_counted number =
    is_counted_from 0 number || (is_counted_from 256 number || (is_counted_from 65536 number
    || (is_counted_from 131072 number || (is_counted_from 196608 number || (is_counted_from 262144 number
    || is_counted_from 524288 number)))))

-- no number of the tables of these types, among those so counted, has this name
abbrev pub HasNone : Named → (first end : ℕ) (name : List ℕ) → Type 0
HasNone what first end name =
    (type number : ℕ) → first ≤ type → type < end → is_counted number ≡ true → is_named (table_of what type) number name ≡ false
