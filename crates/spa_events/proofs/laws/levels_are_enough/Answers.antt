use Rattle.spa_events.proofs.Few as lemmas
use Rattle.spa_events.proofs.laws.levels_are_enough.Goals as goal

pub returns : goal.returns
returns c = lemmas.enough
