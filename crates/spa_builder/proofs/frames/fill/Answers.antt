use Rattle.std.proofs.Common.{sym, ◌∙◌}
use Rattle.spa_builder.proofs.FrameLists.{filled_frames, unfilled_frames}
use Rattle.spa_builder.proofs.frames.fill.Goals as goal

pub returns-then-waits : goal.returns-then-waits
returns-then-waits c base ps v h e i =
    filled_frames c.args.frames.now c.set_stage.new.self base ps v
    (sym (c.waits.ensures base ps i) ∙ c.if-waits.true) e
    (λ b p q rs x w. c.set_stage.ensures b p q rs x w)

pub returns-else-waits : goal.returns-else-waits
returns-else-waits c base ps v h e i =
    e ∙ unfilled_frames base ps v (sym (c.waits.ensures base ps i) ∙ c.if-waits.false)
