use Rattle.spa_events.proofs.Few as lemmas
use Rattle.spa_events.proofs.laws.events_are_few.Goals as goal

pub returns : goal.returns
returns c = lemmas.few
