use Rattle.spa_builder.specs.Step.{step, pop}
use Rattle.spa_builder.proofs.Steps.{kept}
use Rattle.spa_builder.proofs.builder.Builder.pop.Goals as goal

pub invariant_of-self : goal.invariant_of-self
invariant_of-self c = kept (λ s. step s (pop c.args.frame.0)) _ _ c.close.result c.self.invariant
    c.close.ensures
