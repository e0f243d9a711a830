use Rattle.std.proofs.Common.{Ok, Err, rules}
use Rattle.std.proofs.lemmas.List.Sorted.{answers_always}
use Rattle.spa_names.proofs.Found.{entry_found, entry_there}
use Rattle.spa_names.proofs.lookup.entry_of.Goals as goal

pub returns-in-Ok : goal.returns-in-Ok
returns-in-Ok c =
    let is = c.in-Ok.ensures.position (λ entry. entry.0) (answers_always _ _ _ (λ f a r g called. search rules)) in
    entry_found c.args.table c.args.number _ c.entries_of-entries.ensures (Ok c.in-Ok.at) c.in-Ok.ensures.bound is _

pub returns-in-Err : goal.returns-in-Err
returns-in-Err c =
    let is = c.in-Err.ensures.position (λ entry. entry.0) (answers_always _ _ _ (λ f a r g called. search rules)) in
    entry_found c.args.table c.args.number _ c.entries_of-entries.ensures (Err c.in-Err.field-0) c.in-Err.ensures.bound is

pub returns-then-entry-number : goal.returns-then-entry-number
returns-then-entry-number c =
    let at = c.in-Some-get.ensures.lookup.3 in
    entry_there c.args.table c.args.number _ c.entries_of-entries.ensures _ c.in-Some-get.entry.now at.0 at.1 c.if-entry-number.true
