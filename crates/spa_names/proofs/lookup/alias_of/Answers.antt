use Rattle.std.proofs.Common.{◌≡◌, ℕ, List, Bor, None, sym, subst, take, arith}
use Rattle.std.proofs.lemmas.Grind.{common_steps}
use Rattle.std.specs.List.{find}
use Rattle.std.specs.Str.{bytes_eq}
use Rattle.spa_names.proofs.Found.{alias_by}
use Rattle.spa_names.proofs.Searching.{none-more, first-found}
use Rattle.spa_names.proofs.lookup.alias_of.Goals as goal

pub returns-then-eq : goal.returns-then-eq
returns-then-eq c =
    let l = c.loop-alias in
    let has = λ (alias : Bor (List ℕ) × ℕ). bytes_eq alias.0.now c.args.name.now in
    let found = first-found has c.aliases_of-aliases.result.now l.alias-index _ c.loop-alias-test.true l.invariant (sym c.if-eq.ensures) in
    sym (alias_by c.args.table c.args.name.now _ c.aliases_of-aliases.ensures _ found)

pub loop-alias-preserved : goal.loop-alias-preserved
loop-alias-preserved c =
    let l = c.loop-alias in
    let has = λ (alias : Bor (List ℕ) × ℕ). bytes_eq alias.0.now c.args.name.now in
    none-more has c.aliases_of-aliases.result.now l.alias-index _ c.loop-alias-test.true l.invariant (sym c.if-eq.ensures)

pub returns : goal.returns
returns c =
    let l = c.loop-alias in
    let aliases = c.aliases_of-aliases.result.now in
    let whole : take l.alias-index aliases ≡ aliases = grind (arith, common_steps) in
    let none = subst (λ xs. find (λ alias. bytes_eq alias.0.now c.args.name.now) xs ≡ None) whole l.invariant in
    sym (alias_by c.args.table c.args.name.now _ c.aliases_of-aliases.ensures None none)
