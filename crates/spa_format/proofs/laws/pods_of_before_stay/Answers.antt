use Rattle.spa_format.proofs.PodsOfBefore as lemmas
use Rattle.spa_format.proofs.laws.pods_of_before_stay.Goals as goal

pub returns-clause-same : goal.returns-clause-same
returns-clause-same c = lemmas.still_pod

pub returns-clause-one : goal.returns-clause-one
returns-clause-one c = lemmas.same_value

pub returns-clause-rewriting : goal.returns-clause-rewriting
returns-clause-rewriting c = lemmas.same_rewriting

pub returns-clause-exactly : goal.returns-clause-exactly
returns-clause-exactly c = lemmas.was_pod
