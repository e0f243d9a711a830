use Rattle.spa_format.proofs.Refused as lemmas
use Rattle.spa_format.proofs.laws.faults_refuse.Goals as goal

pub returns : goal.returns
returns c = lemmas.refused
