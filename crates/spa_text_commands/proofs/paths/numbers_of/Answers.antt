use Rattle.std.proofs.Common.{◌∙◌, ap, length, sym}
use Rattle.spa_text_commands.proofs.Stepping.{one_counted, written_slice}
use Rattle.spa_text_commands.proofs.paths.numbers_of.Goals as goal

pub loop-number-preserved : goal.loop-number-preserved
loop-number-preserved c =
    let value = c.as_mut_slice.ensures.value in
    one_counted _ _ _ _ _ _ _ _ _ _ c.loop-number.invariant c.loop-number-test.true c.count_one.ensures value
    (written_slice _ _ _ (c.count_one.ensures.as_long ∙ ap length value) (sym c.as_mut_slice.ensures.len ∙ ap length value))
    (ap (λ e. e.parent) c.event_at-parent.ensures) c.in_ok-push.ensures.items
