use Rattle.spa_filter.proofs.FixedObjects.{filters_settle}
use Rattle.spa_filter.proofs.laws.filters_settle.Goals as goal

pub returns : goal.returns
returns c = filters_settle
