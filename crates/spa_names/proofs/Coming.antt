-- Names and numbers of the tables lead to each other.
use Rattle.std.proofs.Common.{◌≡◌, ℕ, ◌==◌, Bool, true, false, List, [], ◌∷◌, Option, Some, None, option_map, cond, is_some, IsSome, refl, sym, ap, subst, ◌∙◌, ◌&&◌, Bor, get_or, length, nat_lt, arith}
use Rattle.std.specs.List.{find, list_all}
use Rattle.std.specs.Option.{option_map_or}
use Rattle.std.proofs.lemmas.Bool.Decides.{nat_tests}
use Rattle.std.proofs.lemmas.Bool.{and_parts, eqb-true}
use Rattle.std.proofs.lemmas.Option.{same_Some}
use Rattle.std.specs.Str.{IsCharBoundary, bytes_eq}
use Rattle.spa_names.specs.declared.table.Table.{Table}
use Rattle.spa_names.specs.Rows.{Row, Naming, name_in, row_of}
use Rattle.spa_names.specs.Tables.{rows_of, aliases_of}
use Rattle.spa_names.specs.Lookup.{row_at, name_of, number_of, alias_of, NamesComeBack, NumbersAreNamed}
use Rattle.spa_names.proofs.Facts.{is_sound-all}
use Rattle.spa_names.proofs.Sound.{begins, is_number, names_begin, names_come_back, numbers_are_named, numbers_rise}

-- what is true of each table
module _ (table : Table) where
  pub numbers_rise-all : numbers_rise table ≡ true
  numbers_rise-all = (and_parts _ _ (and_parts (names_begin table && numbers_rise table) _ (is_sound-all table)).0).1

  names_begin-all : names_begin table ≡ true
  names_begin-all = (and_parts _ _ (and_parts (names_begin table && numbers_rise table) _ (is_sound-all table)).0).0

  names_come_back-all : names_come_back table ≡ true
  names_come_back-all = (and_parts _ _ (and_parts (names_begin table && numbers_rise table) _ (is_sound-all table)).1).0

  numbers_are_named-all : numbers_are_named table ≡ true
  numbers_are_named-all = (and_parts (names_come_back table) _ (and_parts (names_begin table && numbers_rise table) _ (is_sound-all table)).1).1

is_number-Some : (found : Option ℕ) (number : ℕ) → is_number found number ≡ true → found ≡ Some number
is_number-Some None number is = search
is_number-Some (Some found) number is = ap Some (eqb-true found number is)

found_step : {X : Type 0} (test all : X → Bool) (y x : X) (found : Option X) (rest : Bool) → (rest ≡ true → found ≡ Some x → (test x ≡ true) × (all x ≡ true)) →
    (t : Bool) → test y ≡ t → (a : Bool) → all y ≡ a → (a && rest) ≡ true → cond t (Some y) found ≡ Some x → (test x ≡ true) × (all x ≡ true)
found_step test all y x found rest behind true t true a pass is = subst (λ z. (test z ≡ true) × (all z ≡ true)) (same_Some y x is) (t, a)
found_step test all y x found rest behind true t false a pass is = search
found_step test all y x found rest behind false t true a pass is = behind pass is
found_step test all y x found rest behind false t false a pass is = search

-- what is found passes its test, and what all pass
pub found_passes : {X : Type 0} (test all : X → Bool) (xs : List X) → list_all all xs ≡ true → (x : X) → find test xs ≡ Some x → (test x ≡ true) × (all x ≡ true)
found_passes test all [] pass x is = search
found_passes test all (y ∷ ys) pass x is = found_step test all y x (find test ys) (list_all all ys) (λ p i. found_passes test all ys p x i) (test y) refl (all y) refl pass is

begins_whole : (bs : List ℕ) (at : ℕ) → (nat_lt at (length bs) && nat_lt (get_or bs at 0) 128) ≡ true → IsCharBoundary bs at
begins_whole bs at is = grind (arith, nat_tests, is)

-- where the name of a row begins, its text is cut between characters
pub name_begins : (table : Table) (number : ℕ) (entry : ℕ × Bor (List ℕ) × ℕ × ℕ) → Some (row_of entry) ≡ row_at table number → IsCharBoundary entry.1.now entry.2
name_begins table number entry same =
    let passes = found_passes (λ row. row.0 == number) begins (rows_of table) (names_begin-all table) (row_of entry) (sym same) in
    begins_whole entry.1.now entry.2 passes.1

come_back : (table : Table) (number : ℕ) (name : List ℕ) (row : Option Row) → row_at table number ≡ row → option_map name_in row ≡ Some name → number_of table name ≡ Some number
come_back table number name None at is = search
come_back table number name (Some row) at is =
    let passes = found_passes (λ row. row.0 == number) (λ row. is_number (number_of table (name_in row)) row.0) (rows_of table) (names_come_back-all table) row at in
    subst (λ n. number_of table n ≡ Some number) (same_Some (name_in row) name is) (is_number-Some (number_of table (name_in row)) row.0 passes.1 ∙ ap Some (eqb-true row.0 number passes.0))

pub NamesComeBack-all : NamesComeBack
NamesComeBack-all table number name is = come_back table number name (row_at table number) refl is

alias_named : (table : Table) (number : ℕ) (name : List ℕ) (naming : Option Naming) → find (λ naming. bytes_eq naming.0 name) (aliases_of table) ≡ naming →
    option_map (λ naming. naming.1) naming ≡ Some number → IsSome (name_of table number)
alias_named table number name None at is = search
alias_named table number name (Some naming) at is =
    let all = (and_parts _ _ (numbers_are_named-all table)).1 in
    let passes = found_passes (λ naming. bytes_eq naming.0 name) (λ naming. is_some (name_of table naming.1)) (aliases_of table) all naming at in
    subst (λ n. IsSome (name_of table n)) (same_Some naming.1 number is) passes.1

named : (table : Table) (number : ℕ) (name : List ℕ) (row : Option Row) → find (λ row. bytes_eq (name_in row) name) (rows_of table) ≡ row →
    option_map_or (λ row. Some row.0) row (alias_of table name) ≡ Some number → IsSome (name_of table number)
named table number name None at is = alias_named table number name (find (λ naming. bytes_eq naming.0 name) (aliases_of table)) refl is
named table number name (Some row) at is =
    let all = (and_parts _ _ (numbers_are_named-all table)).0 in
    let passes = found_passes (λ row. bytes_eq (name_in row) name) (λ row. is_some (name_of table row.0)) (rows_of table) all row at in
    subst (λ n. IsSome (name_of table n)) (same_Some row.0 number is) passes.1

pub NumbersAreNamed-all : NumbersAreNamed
NumbersAreNamed-all table number name is = named table number name (find (λ row. bytes_eq (name_in row) name) (rows_of table)) refl is
