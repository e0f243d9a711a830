use Rattle.spa_fixed_sized.specs.Choices.{choice_tree}
use Rattle.spa_builder.specs.Step.{step, add}
use Rattle.spa_builder.proofs.Steps.{kept}
use Rattle.spa_builder.proofs.builder.Builder.add_choice.Goals as goal

pub invariant_of-self : goal.invariant_of-self
invariant_of-self g c =
    let trait = g.T.CanonicalFixedSizedPod in
    kept (λ s. step s (add (choice_tree trait.kind trait.fixed c.args.choice.now))) _ _ c.add_whole_choice.result c.self.invariant
    c.add_whole_choice.ensures
