use Rattle.spa_builder.specs.Step.{step, add_prop}
use Rattle.spa_builder.proofs.Steps.{kept}
use Rattle.spa_builder.proofs.builder.Builder.add_prop.Goals as goal

pub invariant_of-self : goal.invariant_of-self
invariant_of-self c = kept (λ s. step s (add_prop c.args.key c.args.flags)) _ _ c.add_key.result
    c.self.invariant c.add_key.ensures
