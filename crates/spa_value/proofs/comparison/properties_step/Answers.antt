use Rattle.std.proofs.Common.{◌∙◌}
use Rattle.spa_value.proofs.Comparing.{equal_property_ends}
use Rattle.spa_value.proofs.comparison.properties_step.Goals as goal

pub returns : goal.returns
returns c =
    let before = c.loop-property.invariant in
    c.is_empty.ensures ∙ equal_property_ends c.loop-property.left.now c.loop-property.others_left.now c.in_default.ensures.cases ∙ before.0
