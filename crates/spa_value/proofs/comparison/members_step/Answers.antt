use Rattle.std.proofs.Common.{◌∙◌}
use Rattle.spa_value.proofs.Comparing.{equal_ends}
use Rattle.spa_value.proofs.comparison.members_step.Goals as goal

pub returns : goal.returns
returns c =
    let before = c.loop-member.invariant in
    c.is_empty.ensures ∙ equal_ends c.loop-member.left.now c.loop-member.others_left.now c.in_default.ensures.cases ∙ before.0
