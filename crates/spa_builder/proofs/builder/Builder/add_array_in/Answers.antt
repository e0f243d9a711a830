use Rattle.std.proofs.Common.{true≢false, sym, ◌∙◌}
use Rattle.spa_builder.specs.Step.{step, add}
use Rattle.spa_format.specs.Tree.{array}
use Rattle.spa_builder.proofs.Bodies.{kept_whole, whole_elements}
use Rattle.spa_builder.proofs.builder.Builder.add_array_in.Goals as goal

pub returns-then-not-are_bodies-clause-made : goal.returns-then-not-are_bodies-clause-made
returns-then-not-are_bodies-clause-made g c = λ s xs at e.
    absurd (true≢false (sym (c.are_bodies.ensures.1 (whole_elements _ _ xs _ g.met.T.CanonicalFixedSizedPod.its_size e)) ∙ c.if-not-are_bodies.true))

pub invariant_of-self : goal.invariant_of-self
invariant_of-self g c =
    kept_whole _ _ _ (λ xs t. step t (add (array g.T.CanonicalFixedSizedPod.kind xs))) _ _ c.add_bodies.result g.met.T.CanonicalFixedSizedPod.its_size
    (c.are_bodies.ensures.0 c.if-not-are_bodies.false) c.self.invariant c.add_bodies.ensures
