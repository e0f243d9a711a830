use Rattle.std.proofs.Common.{map}
use Rattle.spa_format.specs.Tree.{array}
use Rattle.spa_builder.specs.Step.{step, add}
use Rattle.spa_builder.proofs.Steps.{kept}
use Rattle.spa_builder.proofs.builder.Builder.add_array_of.Goals as goal

pub invariant_of-self : goal.invariant_of-self
invariant_of-self g c = kept (λ s. step s (add (array g.T.CanonicalFixedSizedPod.kind
    (map g.T.CanonicalFixedSizedPod.fixed c.args.values.now)))) _ _ c.add_values.result
    c.self.invariant c.add_values.ensures
