use Rattle.std.proofs.Common.{refl}
use Rattle.spa_format.specs.Tree.{no_trees}
use Rattle.spa_builder.specs.State.{open_struct}
use Rattle.spa_builder.specs.Step.{step, push_struct}
use Rattle.spa_builder.proofs.Steps.{kept, through}
use Rattle.spa_builder.proofs.builder.Builder.push_struct.Goals as goal

pub invariant_of-self : goal.invariant_of-self
invariant_of-self c = kept (λ s. step s push_struct) _ _ c.begin_tree.result c.self.invariant
    (λ s at. c.begin_tree.ensures.step s (open_struct no_trees) at refl c.struct_head.ensures tt)

pub returns-clause-step : goal.returns-clause-step
returns-clause-step c = through (λ s. step s push_struct) _ _ _ c.begin_tree.result c.self.view_is
    (λ s at. c.begin_tree.ensures.step s (open_struct no_trees) at refl c.struct_head.ensures tt)
