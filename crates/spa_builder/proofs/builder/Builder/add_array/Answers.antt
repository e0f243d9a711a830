use Rattle.spa_value.specs.View.{array_view}
use Rattle.spa_builder.specs.Step.{step, add}
use Rattle.spa_builder.proofs.Steps.{kept}
use Rattle.spa_builder.proofs.builder.Builder.add_array.Goals as goal

pub invariant_of-self : goal.invariant_of-self
invariant_of-self c = kept (λ s. step s (add (array_view c.args.values.now))) _ _
    c.add_elements.result c.self.invariant c.add_elements.ensures
