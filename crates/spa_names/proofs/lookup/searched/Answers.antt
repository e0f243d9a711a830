use Rattle.std.proofs.Common.{◌≡◌, ◌∙◌, ℕ, List, Bor, None, refl, sym, subst, take, arith}
use Rattle.std.proofs.lemmas.Grind.{common_steps}
use Rattle.std.specs.List.{find}
use Rattle.std.specs.Str.{bytes_eq}
use Rattle.spa_names.specs.Rows.{name_in, row_of}
use Rattle.spa_names.proofs.Found.{number_by}
use Rattle.spa_names.proofs.Searching.{none-more, first-found}
use Rattle.spa_names.proofs.lookup.searched.Goals as goal

pub loop-entry-init : goal.loop-entry-init
loop-entry-init c = refl

pub returns-then-has_name : goal.returns-then-has_name
returns-then-has_name c =
    let l = c.loop-entry in
    let has = λ (entry : ℕ × Bor (List ℕ) × ℕ × ℕ). bytes_eq (name_in (row_of entry)) c.args.name.now in
    let found = first-found has c.entries_of-entries.result.now l.entry-index _ c.loop-entry-test.true l.invariant (sym c.if-has_name.ensures) in
    sym (number_by c.args.table c.args.name.now _ c.entries_of-entries.ensures _ found)

pub loop-entry-preserved : goal.loop-entry-preserved
loop-entry-preserved c =
    let l = c.loop-entry in
    let has = λ (entry : ℕ × Bor (List ℕ) × ℕ × ℕ). bytes_eq (name_in (row_of entry)) c.args.name.now in
    none-more has c.entries_of-entries.result.now l.entry-index _ c.loop-entry-test.true l.invariant (sym c.if-has_name.ensures)

pub returns : goal.returns
returns c =
    let l = c.loop-entry in
    let entries = c.entries_of-entries.result.now in
    let whole : take l.entry-index entries ≡ entries = grind (arith, common_steps) in
    let none = subst (λ xs. find (λ entry. bytes_eq (name_in (row_of entry)) c.args.name.now) xs ≡ None) whole l.invariant in
    c.alias_of.ensures ∙ sym (number_by c.args.table c.args.name.now _ c.entries_of-entries.ensures None none)
