use Rattle.std.proofs.Common.{refl, []}
use Rattle.spa_builder.specs.State.{open_array}
use Rattle.spa_builder.specs.Step.{step, push_array}
use Rattle.spa_builder.proofs.Steps.{kept, through}
use Rattle.spa_builder.proofs.builder.Builder.push_array.Goals as goal

pub invariant_of-self : goal.invariant_of-self
invariant_of-self c = kept (λ s. step s push_array) _ _ c.begin_tree.result c.self.invariant
    (λ s at. c.begin_tree.ensures.step s (open_array []) at refl c.array_head.ensures (λ e. refl))

pub returns-clause-step : goal.returns-clause-step
returns-clause-step c = through (λ s. step s push_array) _ _ _ c.begin_tree.result c.self.view_is
    (λ s at. c.begin_tree.ensures.step s (open_array []) at refl c.array_head.ensures (λ e. refl))
