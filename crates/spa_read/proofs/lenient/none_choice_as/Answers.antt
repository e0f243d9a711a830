use Rattle.spa_read.specs.Reading.{of_child}
use Rattle.spa_read.proofs.Replaced.{child_there, never_read}
use Rattle.spa_read.proofs.lenient.none_choice_as.Goals as goal

pub returns : goal.returns
returns c =
    of_child _ c.requires (never_read _ (c.if-stays_choice.ensures.1))
    (child_there _ _ _ c.requires c.u32_at.ensures c.u32_at-type_.ensures c.if-body-end.false) c.body_as.ensures
