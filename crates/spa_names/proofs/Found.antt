-- What binary searches of the tables find.
use Rattle.std.proofs.Common.{◌≡◌, ◌<◌, ℕ, ◌==◌, true, List, length, get_or, map, Option, Some, None, option_map, Result, MatchResult, Bor, Ok, Err, refl, sym, ap, ◌∙◌, arith}
use Rattle.std.specs.List.{HoldsAt, find}
use Rattle.std.specs.Option.{option_map_or}
use Rattle.std.specs.List.Sorted.{IsSearchInRange, IsBinarySearchResult}
use Rattle.std.specs.Str.{bytes_eq}
use Rattle.std.proofs.lemmas.Slice.Eq.{bytes_eq-Decides}
use Rattle.std.specs.Ordering.{is_eq, nat_cmp}
use Rattle.std.specs.declared.cmp.Ordering.TheVariants.{Equal}
use Rattle.std.proofs.lemmas.Bool.Decides.{nat_tests}
use Rattle.std.proofs.lemmas.Cmp.{nat_cmp_total}
use Rattle.spa_names.specs.declared.table.Table.{Table}
use Rattle.spa_names.specs.Rows.{row_of, naming_of, name_in}
use Rattle.spa_names.specs.Tables.{rows_of, aliases_of}
use Rattle.spa_names.specs.Lookup.{row_at, name_of, alias_of, number_of, object_at}
use Rattle.spa_names.specs.declared.table.TheConstants.{OBJECTS}
use Rattle.spa_names.proofs.Coming.{NamesComeBack-all, numbers_rise-all}
use Rattle.spa_names.proofs.Searching.{rises, rises-map, find-map, searched}

is_eq-nat_cmp : (x y : ℕ) → (x == y) ≡ is_eq (nat_cmp x y)
is_eq-nat_cmp x y = grind (arith, nat_tests)

nat_cmp-same : (x : ℕ) → nat_cmp x x ≡ Equal
nat_cmp-same x = grind (arith, nat_tests)

module _ (table : Table) (number : ℕ) (entries : List (ℕ × Bor (List ℕ) × ℕ × ℕ)) (same : map row_of entries ≡ rows_of table) where
  entries_rise : rises nat_cmp (λ entry. entry.0) entries ≡ true
  entries_rise = sym (rises-map row_of nat_cmp (λ row. row.0) entries) ∙ rw same (numbers_rise-all table)

  row_at-entries : row_at table number ≡ option_map row_of (find (λ entry. entry.0 == number) entries)
  row_at-entries = rw (← same) (find-map row_of (λ row. row.0 == number) entries)

  pub entry_found : (r : Result ℕ ℕ) → IsSearchInRange r (length entries) → IsBinarySearchResult (λ entry. nat_cmp entry.0 number) entries r →
      MatchResult r (λ at. (d : ℕ × Bor (List ℕ) × ℕ × ℕ) → Some (row_of (get_or entries at d)) ≡ row_at table number) (λ at. None ≡ row_at table number)
  entry_found (Ok at) in_range is =
      let found = searched nat_cmp_total (λ entry. entry.0) number (λ entry. entry.0 == number) (λ entry. is_eq-nat_cmp entry.0 number) entries entries_rise (Ok at) in_range is in
      λ d. sym (row_at-entries ∙ ap (option_map row_of) (found d))
  entry_found (Err at) in_range is =
      let found = searched nat_cmp_total (λ entry. entry.0) number (λ entry. entry.0 == number) (λ entry. is_eq-nat_cmp entry.0 number) entries entries_rise (Err at) in_range is in
      sym (row_at-entries ∙ ap (option_map row_of) found)

  -- an entry that has the number is the table's
  pub entry_there : (at : ℕ) (entry : ℕ × Bor (List ℕ) × ℕ × ℕ) → at < length entries → HoldsAt (λ other. entry ≡ other) entries at → entry.0 ≡ number →
      Some (row_of entry) ≡ row_at table number
  entry_there at entry in_range there is =
      ap (λ e. Some (row_of e)) (there entry) ∙ entry_found (Ok at) in_range (λ d. ap (λ e. nat_cmp e.0 number) (sym (there d)) ∙ rw is (nat_cmp-same number)) entry

module _ (table : Table) (name : List ℕ) (entries : List (ℕ × Bor (List ℕ) × ℕ × ℕ)) (same : map row_of entries ≡ rows_of table) where
  -- the number of the name, by the entry that has it
  pub number_by : (found : Option (ℕ × Bor (List ℕ) × ℕ × ℕ)) → find (λ entry. bytes_eq (name_in (row_of entry)) name) entries ≡ found →
      number_of table name ≡ option_map_or (λ row. Some row.0) (option_map row_of found) (alias_of table name)
  number_by found is =
      let row : find (λ row. bytes_eq (name_in row) name) (rows_of table) ≡ option_map row_of (find (λ entry. bytes_eq (name_in (row_of entry)) name) entries) =
      rw (← same) (find-map row_of (λ row. bytes_eq (name_in row) name) entries) in
      ap (λ r. option_map_or (λ row. Some row.0) r (alias_of table name)) (row ∙ ap (option_map row_of) is)

numbers_alike : (found : Option (Bor (List ℕ) × ℕ)) → option_map (λ naming. naming.1) (option_map naming_of found) ≡ option_map (λ naming. naming.1) found
numbers_alike None = refl
numbers_alike (Some naming) = refl

-- the number of the further name, by the naming that has it
pub alias_by : (table : Table) (name : List ℕ) (namings : List (Bor (List ℕ) × ℕ)) → map naming_of namings ≡ aliases_of table →
    (found : Option (Bor (List ℕ) × ℕ)) → find (λ naming. bytes_eq naming.0.now name) namings ≡ found → alias_of table name ≡ option_map (λ naming. naming.1) found
alias_by table name namings same found is =
    let naming : find (λ naming. bytes_eq naming.0 name) (aliases_of table) ≡ option_map naming_of (find (λ naming. bytes_eq naming.0.now name) namings) =
    rw (← same) (find-map naming_of (λ naming. bytes_eq naming.0 name) namings) in
    ap (option_map (λ naming. naming.1)) (naming ∙ ap (option_map naming_of) is) ∙ numbers_alike found

-- an entry of the table that has the name is the one whose number the name has
pub named_there : (table : Table) (name : List ℕ) (entries : List (ℕ × Bor (List ℕ) × ℕ × ℕ)) → map row_of entries ≡ rows_of table →
    (at : ℕ) (entry : ℕ × Bor (List ℕ) × ℕ × ℕ) → at < length entries → HoldsAt (λ other. entry ≡ other) entries at →
    bytes_eq (name_in (row_of entry)) name ≡ true → Some entry.0 ≡ number_of table name
named_there table name entries same at entry in_range there is =
    let row = entry_there table entry.0 entries same at entry in_range there refl in
    let named : name_of table entry.0 ≡ Some name = ap (option_map name_in) (sym row) ∙ ap Some ((bytes_eq-Decides (name_in (row_of entry)) name).0 is) in
    sym (NamesComeBack-all table entry.0 name named)

module _ (type : ℕ) (r : Result ℕ ℕ) (in_range : IsSearchInRange r (length OBJECTS)) (is : IsBinarySearchResult (λ object. nat_cmp object.0 type) OBJECTS r) where
  pub object_found : MatchResult r (λ at. (d : ℕ × Table × Table) → Some (get_or OBJECTS at d) ≡ object_at type) (λ at. None ≡ object_at type)
  object_found = found_or r (searched nat_cmp_total (λ object. object.0) type (λ object. object.0 == type) (λ object. is_eq-nat_cmp object.0 type) OBJECTS refl r in_range is)
    where
      found_or : (r : Result ℕ ℕ) → MatchResult r (λ at. (d : ℕ × Table × Table) → object_at type ≡ Some (get_or OBJECTS at d)) (λ at. object_at type ≡ None) → MatchResult r (λ at. (d : ℕ × Table × Table) → Some (get_or OBJECTS at d) ≡ object_at type) (λ at. None ≡ object_at type)
      found_or (Ok at) found = λ d. sym (found d)
      found_or (Err at) found = sym found

-- a type of objects that has the number is the list's
pub object_there : (type at : ℕ) (object : ℕ × Table × Table) → at < length OBJECTS → HoldsAt (λ other. object ≡ other) OBJECTS at → object.0 ≡ type →
    Some object ≡ object_at type
object_there type at object in_range there is =
    ap Some (there object) ∙ object_found type (Ok at) in_range (λ d. ap (λ o. nat_cmp o.0 type) (sym (there d)) ∙ rw is (nat_cmp-same type)) object
