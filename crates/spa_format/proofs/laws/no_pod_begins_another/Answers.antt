use Rattle.spa_format.proofs.Origin as lemmas
use Rattle.spa_format.proofs.laws.no_pod_begins_another.Goals as goal

pub returns : goal.returns
returns c = lemmas.no_longer
