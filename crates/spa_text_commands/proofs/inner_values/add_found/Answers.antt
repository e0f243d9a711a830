use Rattle.std.proofs.Common.{◌∙◌, arith, subst}
use Rattle.spa_text_commands.specs.Lines.{AddsParts}
use Rattle.spa_text_commands.specs.Selection.{found_in}
use Rattle.spa_text_commands.proofs.Values.{found_begin, found_done, found_end}
use Rattle.spa_text_commands.proofs.inner_values.add_found.Goals as goal

pub loop-number-init : goal.loop-number-init
loop-number-init c = found_begin _ _ _ _ _ _ _

pub loop-number-preserved : goal.loop-number-preserved
loop-number-preserved c =
    found_done _ _ _ _ _ _ _ _ _ _ _ _ c.loop-number-test.true c.in_ok-refused.ensures.few c.in_ok-refused.ensures.added c.loop-number.invariant

pub returns-clause-added : goal.returns-clause-added
returns-clause-added c =
    subst (λ b. AddsParts c.args.printout.form (found_in c.args.printout.selection c.args.count c.args.place b) c.args.page.now.lines.items c.loop-number.page.lines.items c.loop-number.refused)
    c.whole_bytes-bytes.ensures.bytes
    (found_end _ _ _ _ _ _ c.loop-number.number _ _ _ (let t = c.loop-number-test.false in omega (arith, t))
    (c.as_slice-events.ensures.value ∙ c.in_ok-listed.ensures.events) c.loop-number.invariant)
