use Rattle.spa_filter.proofs.FixedObjects.{meetings_commute, meetings_repeat, meetings_narrow}
use Rattle.spa_filter.proofs.laws.filters_admit_the_same.Goals as goal

pub returns : goal.returns
returns c = record { either_order = meetings_commute; again = meetings_repeat; narrowed = meetings_narrow }
