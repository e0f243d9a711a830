use Rattle.spa_negotiate.proofs.Fronts.{no_meeting}
use Rattle.spa_negotiate.proofs.laws.refused_fronts_cannot_meet.Goals as goal

pub returns : goal.returns
returns c = no_meeting c.pods_have_one_value.ensures
