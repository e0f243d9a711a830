use Rattle.spa_format.proofs.Conveyed as lemmas
use Rattle.spa_format.proofs.lenient_laws.pods_convey_their_values.Goals as goal

pub returns-clause-conveyed : goal.returns-clause-conveyed
returns-clause-conveyed c = lemmas.pod_conveys

pub returns-clause-no_other : goal.returns-clause-no_other
returns-clause-no_other c b v w h k = lemmas.one_value b w v k (lemmas.pod_conveys b v h)
