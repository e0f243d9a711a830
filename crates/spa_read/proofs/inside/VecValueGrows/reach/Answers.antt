use Rattle.spa_read.proofs.Bodies.{reaches_member}
use Rattle.spa_read.proofs.inside.VecValueGrows.reach.Goals as goal

pub returns-clause-reached : goal.returns-clause-reached
returns-clause-reached c = reaches_member _ _ c.requires
