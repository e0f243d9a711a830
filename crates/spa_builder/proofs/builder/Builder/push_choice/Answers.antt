use Rattle.std.proofs.Common.{[], ap, arith}
use Rattle.std.specs.Prelude.{None}
use Rattle.spa_builder.specs.State.{open_choice}
use Rattle.spa_builder.specs.Step.{step, push_choice}
use Rattle.spa_builder.specs.declared.begun.Stage.TheVariants.{Choice}
use Rattle.spa_builder.specs.declared.begun.What.{What}
use Rattle.spa_builder.proofs.Shapes.{shape_with, begun_with}
use Rattle.spa_builder.proofs.Steps.{kept, through}
use Rattle.spa_builder.proofs.builder.Builder.push_choice.Goals as goal

pub invariant_of-self : goal.invariant_of-self
invariant_of-self c =
    let h = shape_with c.args.shape (omega arith) in
    let what = ap (λ n. let w : What =
    record { stage = Choice; elements = record { shape = n; first = None; count = 0 } } in w) h.2
    in
    kept (λ s. step s (push_choice c.args.shape c.args.flags)) _ _ c.begin_tree.result c.self.invariant
    (λ s at. begun_with c.args.shape c.args.flags h.0 s _ _ c.begin_tree.result h.1
    (c.begin_tree.ensures.step s (open_choice h.0 c.args.flags []) at what
    (c.choice_head.ensures h.0 h.2) tt))

pub returns-clause-step : goal.returns-clause-step
returns-clause-step c =
    let h = shape_with c.args.shape (omega arith) in
    let what = ap (λ n. let w : What =
    record { stage = Choice; elements = record { shape = n; first = None; count = 0 } } in w) h.2
    in
    through (λ s. step s (push_choice c.args.shape c.args.flags)) _ _ _ c.begin_tree.result
    c.self.view_is (λ s at. begun_with c.args.shape c.args.flags h.0 s _ _ c.begin_tree.result h.1
    (c.begin_tree.ensures.step s (open_choice h.0 c.args.flags []) at what
    (c.choice_head.ensures h.0 h.2) tt))
