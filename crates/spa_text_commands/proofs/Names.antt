-- Which types, ids and keys have a name.
use Rattle.std.proofs.Common.{◌≡◌, ◌≢◌, ◌∙◌, ◌<◌, ◌≤◌, ◌^◌, ◌+◌, ◌==◌, ◌&&◌, ◌||◌, suc, ℕ, Bool, true, false, true≢false, List, [], ◌∷◌, Option, Some, None, inl, inr, option_map, refl, sym, ap, subst, nat_lt, arith}
use Rattle.std.specs.Prelude.{nat_le, Result, Ok, Err}
use Rattle.std.specs.Fmt.{decimal}
use Rattle.std.specs.List.{find, list_all}
use Rattle.std.specs.Option.{option_map_or}
use Rattle.std.specs.Str.{bytes_eq}
use Rattle.std.proofs.lemmas.Slice.Eq.{bytes_eq-Decides}
use Rattle.std.proofs.lemmas.Bool.{cases_eq, eqb-true, leb-true, and_parts, or_cases}
use Rattle.std.proofs.lemmas.Option.{none-some, same_Some}
use Rattle.spa_names.specs.Lookup.{ids_of, keys_of, object_at, path_of}
use Rattle.spa_names.specs.Rows.{Row}
use Rattle.spa_names.specs.Tables.{rows_of}
use Rattle.spa_names.specs.declared.table.Table.{Table}
use Rattle.spa_names.specs.declared.table.Table.TheVariants.{Nothing, BuffersKeys, CommandNode, CommandNodeKeys, DeviceEventId, DeviceKeys, FormatKeys, IOKeys, LatencyKeys, Node, NodeKeys, ParamId, ParamMetaKeys, PortConfigKeys, ProcessLatencyKeys, ProfileKeys, ProfilerKeys, PropInfoKeys, PropsKeys, RouteKeys, Types}
use Rattle.spa_names.proofs.Coming.{found_passes}
use Rattle.spa_text_commands.specs.Naming.{HasNone, IsName, is_counted, table_of}
use Rattle.spa_text_commands.specs.Selection.{is_end_of, is_named}
use Rattle.spa_text_commands.specs.declared.naming.Named.{Named}
use Rattle.spa_text_commands.specs.declared.naming.Named.TheVariants as named

-- a type of objects that have ids or keys with names
is_type : ℕ → Bool
is_type type =
    (nat_le 131073 type && nat_lt type 131075) || ((nat_le 196610 type && nat_lt type 196611) || (nat_le 262145 type && nat_lt type 262157))

are_counted : Table → Bool
are_counted table = list_all (λ row. is_counted row.0) (rows_of table)

-- a path is that of a number which is counted
row_counted : (table : Table) (row : Option Row) (number : ℕ) (path : List ℕ) → find (λ r. r.0 == number) (rows_of table) ≡ row →
    are_counted table ≡ true → option_map (λ r. r.1) row ≡ Some path → is_counted number ≡ true
unfolding are_counted
row_counted table None number path e all is = absurd (none-some path is)
row_counted table (Some row) number path e all is =
    let its = found_passes (λ r. r.0 == number) (λ r. is_counted r.0) (rows_of table) all row e in
    let same : row.0 ≡ number = eqb-true row.0 number its.0 in subst (λ k. is_counted k ≡ true) same its.1

has_names : (object : ℕ × Table × Table) → Bool
has_names object = is_type object.0 && (are_counted object.1 && are_counted object.2)

-- the types of objects, with the tables of their keys and ids
objects : List (ℕ × Table × Table)
objects =
    (131073, DeviceKeys, DeviceEventId) ∷ (131074, NodeKeys, Node) ∷ (196610, CommandNodeKeys, CommandNode) ∷
    (262145, PropInfoKeys, ParamId) ∷ (262146, PropsKeys, ParamId) ∷ (262147, FormatKeys, ParamId) ∷
    (262148, BuffersKeys, ParamId) ∷ (262149, ParamMetaKeys, ParamId) ∷ (262150, IOKeys, ParamId) ∷
    (262151, ProfileKeys, ParamId) ∷ (262152, PortConfigKeys, ParamId) ∷ (262153, RouteKeys, ParamId) ∷
    (262154, ProfilerKeys, ParamId) ∷ (262155, LatencyKeys, ParamId) ∷ (262156, ProcessLatencyKeys, ParamId) ∷ []

-- only objects of these types have tables of keys and ids, whose numbers are counted
listed : (object : ℕ × Table × Table) (type : ℕ) → object_at type ≡ Some object →
    (is_type type ≡ true) × (are_counted object.1 ≡ true) × (are_counted object.2 ≡ true)
unfolding has_names is_type are_counted objects
listed object type e =
    let its = found_passes (λ o. o.0 == type) has_names objects refl object e in
    let same : object.0 ≡ type = eqb-true object.0 type its.0 in
    let parts = and_parts (is_type object.0) (are_counted object.1 && are_counted object.2) its.1 in
    let tables = and_parts (are_counted object.1) (are_counted object.2) parts.1 in
    (subst (λ t. is_type t ≡ true) same parts.0, tables.0, tables.1)

keys_counted : (object : Option (ℕ × Table × Table)) (type key : ℕ) (path : List ℕ) → object_at type ≡ object →
    path_of (option_map_or (λ o. o.1) object Nothing) key ≡ Some path → (is_type type ≡ true) × (is_counted key ≡ true)
keys_counted None type key path e is = absurd (none-some path is)
keys_counted (Some object) type key path e is =
    let its = listed object type e in (its.0, row_counted object.1 _ key path refl its.1 is)

ids_counted : (object : Option (ℕ × Table × Table)) (type id : ℕ) (path : List ℕ) → object_at type ≡ object →
    path_of (option_map_or (λ o. o.2) object Nothing) id ≡ Some path → (is_type type ≡ true) × (is_counted id ≡ true)
ids_counted None type id path e is = absurd (none-some path is)
ids_counted (Some object) type id path e is =
    let its = listed object type e in (its.0, row_counted object.2 _ id path refl its.2 is)

types_counted : (type : ℕ) (path : List ℕ) → path_of Types type ≡ Some path → is_counted type ≡ true
unfolding are_counted
types_counted type path is = row_counted Types _ type path refl refl is

-- what holds of numbers below one, and of it, holds of those up to it
pub one_more : (P : ℕ → Type 0) (start at : ℕ) → ((n : ℕ) → start ≤ n → n < at → P n) → P at → (n : ℕ) → start ≤ n → n < at + 1 → P n
one_more P start at before is n low high = elim (cases_eq n at) [
  | inl same ↦ subst P (sym same) is
  | inr other ↦ before n low (omega (arith, high, other))
]

within : (low high n : ℕ) → (nat_le low n && nat_lt n high) ≡ true → (low ≤ n) × (n < high)
within low high n is = let parts = and_parts (nat_le low n) (nat_lt n high) is in (leb-true low n parts.0, leb-true (suc n) high parts.1)

-- or else a number's path
has_path : (path : Option (List ℕ)) (key : ℕ) (name : List ℕ) → decimal key ≢ name → (option_map_or (λ p. is_end_of p name) path false || bytes_eq (decimal key) name) ≡ true →
    (p : List ℕ) × (path ≡ Some p)
has_path None key name other is = absurd (other ((bytes_eq-Decides (decimal key) name).0 is))
has_path (Some p) key name other is = (p, refl)

-- a name of an object's table is one of those of its type
by_type : (what : Named) (type number : ℕ) (name : List ℕ) → is_type type ≡ true → is_counted number ≡ true →
    is_named (table_of what type) number name ≡ true → HasNone what 131073 131075 name → HasNone what 196610 196611 name →
    HasNone what 262145 262157 name → ⊥
unfolding is_type
by_type what type number name its listed has first second third =
    let unnamed : is_named (table_of what type) number name ≡ false → ⊥ = λ e. true≢false (sym has ∙ e) in
    elim (or_cases _ _ its) [
      | inl t ↦ let at = within 131073 131075 type t in unnamed (first type number at.0 at.1 listed)
      | inr others ↦ elim (or_cases _ _ others) [
        | inl t ↦ let at = within 196610 196611 type t in unnamed (second type number at.0 at.1 listed)
        | inr t ↦ let at = within 262145 262157 type t in unnamed (third type number at.0 at.1 listed)
      ]
    ]

pub by_no_name : (what : Named) (name : List ℕ) → ((number : ℕ) → number < 2 ^ 32 → decimal number ≢ name) → HasNone what 131073 131075 name →
    HasNone what 196610 196611 name → HasNone what 262145 262157 name → ¬ (IsName what name)
by_no_name named.Types name number first second third has =
    let path = has_path (path_of Types has.1) has.1 name (number has.1 has.2) has.3 in
    true≢false (sym has.3 ∙ first 131073 has.1 (omega arith) (omega arith) (types_counted has.1 path.0 path.1))
by_no_name named.Ids name number first second third has =
    let path = has_path (path_of (ids_of (record { 0 = has.0 })) has.1) has.1 name (number has.1 has.2) has.3 in
    let its = ids_counted (object_at has.0) has.0 has.1 path.0 refl path.1 in
    by_type named.Ids has.0 has.1 name its.0 its.1 has.3 first second third
by_no_name named.Keys name number first second third has =
    let path = has_path (path_of (keys_of (record { 0 = has.0 })) has.1) has.1 name (number has.1 has.2) has.3 in
    let its = keys_counted (object_at has.0) has.0 has.1 path.0 refl path.1 in
    by_type named.Keys has.0 has.1 name its.0 its.1 has.3 first second third

-- ---- Numbers

number_in : {E : Type 0} → Result ℕ E → Option ℕ
number_in (Ok n) = Some n
number_in (Err e) = None

-- the number that is parsed has these digits
pub parsed : {E : Type 0} (r : Result ℕ E) (n key : ℕ) (name text : List ℕ) (is : Bool) → r ≡ Ok n → r ≡ Ok key → text ≡ decimal n →
    is ≡ bytes_eq text name → decimal key ≡ name → is ≡ false → ⊥
unfolding number_in
parsed r n key name text is first second written tested digits differs =
    let same : n ≡ key = same_Some n key (ap number_in (sym first ∙ second)) in
    true≢false (sym ((bytes_eq-Decides text name).1 (written ∙ ap decimal same ∙ digits)) ∙ sym tested ∙ differs)

pub not_parsed : {E : Type 0} (r : Result ℕ E) (e : E) (key : ℕ) → r ≡ Err e → r ≡ Ok key → ⊥
unfolding number_in
not_parsed r e key first second = none-some key (ap number_in (sym first ∙ second))
