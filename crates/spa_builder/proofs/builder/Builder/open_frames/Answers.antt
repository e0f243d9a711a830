use Rattle.std.proofs.Common.{length, ap, ◌∙◌}
use Rattle.spa_builder.specs.Fields.{BuilderFields}
use Rattle.spa_builder.proofs.Leaving.{count_of}
use Rattle.spa_builder.proofs.builder.Builder.open_frames.Goals as goal

pub returns : goal.returns
returns c s at = c.len.ensures ∙ ap (λ (h : BuilderFields). length h.frames) c.self.view_is
    ∙ count_of c.args.self.now s at
