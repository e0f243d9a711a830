use Rattle.std.proofs.Common.{refl, ◌∙◌}
use Rattle.spa_builder.proofs.Kept.{stage_kept}
use Rattle.spa_builder.proofs.frames.Frames.set_stage.Goals as goal

pub returns : goal.returns
returns c base p q ps e h = stage_kept _ _ _ c.args.stage _ _ base p q ps c.self.invariant
    (c.self.view_is ∙ e) refl refl h
