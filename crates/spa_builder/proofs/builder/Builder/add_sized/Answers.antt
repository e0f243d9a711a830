use Rattle.spa_format.specs.Tree.{fixed}
use Rattle.spa_builder.specs.Step.{step, add}
use Rattle.spa_builder.proofs.Steps.{kept}
use Rattle.spa_builder.proofs.builder.Builder.add_sized.Goals as goal

pub invariant_of-self : goal.invariant_of-self
invariant_of-self g c = kept (λ s. step s (add (fixed (g.T.CanonicalFixedSizedPod.fixed c.args.value.now)))) _ _
    c.add_fixed.result c.self.invariant c.add_fixed.ensures
