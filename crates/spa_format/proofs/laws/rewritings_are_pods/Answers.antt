use Rattle.spa_format.proofs.Origin as lemmas
use Rattle.spa_format.proofs.laws.rewritings_are_pods.Goals as goal

pub returns : goal.returns
returns c = lemmas.rewriting_is_pod
