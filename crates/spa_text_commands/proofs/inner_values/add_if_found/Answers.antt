use Rattle.std.proofs.Common.{arith, rules, subst}
use Rattle.std.proofs.lemmas.Result.{err_from_is_err_and}
use Rattle.std.specs.Prelude.{IfOk}
use Rattle.spa_text_commands.specs.Lines.{AddsParts}
use Rattle.spa_text_commands.specs.Selection.{found_at}
use Rattle.spa_text_commands.proofs.Stepping.{written_path}
use Rattle.spa_text_commands.proofs.Values.{is_there, none_there, not_found, value_room}
use Rattle.spa_text_commands.proofs.inner_values.add_if_found.Goals as goal

pub returns-then-not-sought-clause-added : goal.returns-then-not-sought-clause-added
returns-then-not-sought-clause-added c =
    let a = c.args in
    let s = a.searched in
    let lines = a.page.now.lines.items in
    subst (λ e. AddsParts a.printout.form (found_at a.printout.selection s.count s.place s.bytes.now s.events.now a.number e) lines lines 0)
    c.event_at-event.ensures
    (not_found a.printout.form a.printout.selection s.count s.place s.bytes.now _ s.events.now a.number _ c.in_ok-sought.sought c.in_ok-sought.ensures (search rules))

pub returns-in_default-clause-added : goal.returns-in_default-clause-added
returns-in_default-clause-added c =
    let a = c.args in
    let s = a.searched in
    let lines = a.page.now.lines.items in
    subst (λ e. AddsParts a.printout.form (found_at a.printout.selection s.count s.place s.bytes.now s.events.now a.number e) lines lines 0)
    c.event_at-event.ensures
    (none_there a.printout.form a.printout.selection s.count s.place s.bytes.now _ s.events.now a.number _ c.in_default.ensures.none)

pub returns-in_err-put_steps-clause-added : goal.returns-in_err-put_steps-clause-added
returns-in_err-put_steps-clause-added c =
    let p = err_from_is_err_and c.from_residual-in_err-put_steps.result c.from_residual-in_err-put_steps.ensures.1 in
    rw p.1 tt

pub overflow_add-part : goal.overflow_add-part
overflow_add-part c =
    let r = value_room c.args.searched.place _ _ _ c.requires.place c.in-Some.ensures.there c.in-Some.ensures.front in
    omega (arith, r)

pub add_part-requires-clause-place : goal.add_part-requires-clause-place
add_part-requires-clause-place c = value_room c.args.searched.place _ _ _ c.requires.place c.in-Some.ensures.there c.in-Some.ensures.front

pub returns-clause-added : goal.returns-clause-added
returns-clause-added c =
    let a = c.args in
    let s = a.searched in
    let selection = a.printout.selection in
    subst
    (λ e. IfOk c.add_part.result
    (AddsParts a.printout.form (found_at selection s.count s.place s.bytes.now s.events.now a.number e) a.page.now.lines.items c.add_part.new.page.lines.items))
    c.event_at-event.ensures
    (is_there a.printout.form selection s.count s.place s.bytes.now _ _ _ _ s.events.now a.number _ c.in_ok-sought.sought c.add_part.result
    c.in_ok-sought.ensures (search rules) c.in-Some.ensures.there c.in-Some.ensures.front
    (written_path _ _ _ _ c.as_str.ensures.value c.in_ok-put_steps.ensures c.new-path.ensures.bytes) c.add_part.ensures.added)
