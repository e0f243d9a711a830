use Rattle.std.proofs.Common.{refl}
use Rattle.spa_format.specs.Tree.{no_properties}
use Rattle.spa_builder.specs.State.{open_object}
use Rattle.spa_builder.specs.Step.{step, push_object}
use Rattle.spa_builder.proofs.Steps.{kept, through}
use Rattle.spa_builder.proofs.builder.Builder.push_object.Goals as goal

pub invariant_of-self : goal.invariant_of-self
invariant_of-self c = kept (λ s. step s (push_object c.args.type_ c.args.id)) _ _ c.begin_tree.result
    c.self.invariant (λ s at. c.begin_tree.ensures.step s
    (open_object c.args.type_ c.args.id no_properties) at refl c.object_head.ensures tt)

pub returns-clause-step : goal.returns-clause-step
returns-clause-step c = through (λ s. step s (push_object c.args.type_ c.args.id)) _ _ _
    c.begin_tree.result c.self.view_is
    (λ s at. c.begin_tree.ensures.step s (open_object c.args.type_ c.args.id no_properties) at refl
    c.object_head.ensures tt)
