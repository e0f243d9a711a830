use Rattle.spa_builder.specs.Step.{step, abandon}
use Rattle.spa_builder.proofs.Steps.{kept}
use Rattle.spa_builder.proofs.builder.Builder.abandon.Goals as goal

pub invariant_of-self : goal.invariant_of-self
invariant_of-self c = kept (λ s. step s (abandon c.args.frame.0)) _ _ c.leave.result
    c.self.invariant c.leave.ensures
