use Rattle.spa_value.specs.View.{view}
use Rattle.spa_builder.proofs.Valued.{kept_value}
use Rattle.spa_builder.proofs.builder.Builder.add_value.Goals as goal

pub invariant_of-self : goal.invariant_of-self
invariant_of-self c = kept_value (view c.args.value.now) _ _ c.add_any.result c.self.invariant
    c.add_any.ensures
