use Rattle.spa_format.proofs.Exacted as lemmas
use Rattle.spa_format.proofs.lenient_laws.lenient_rewritings_are_pods.Goals as goal

pub returns-clause-typed : goal.returns-clause-typed
returns-clause-typed c = lemmas.conveyed_typed

pub returns-clause-writable : goal.returns-clause-writable
returns-clause-writable c = lemmas.conveyed_writable

pub returns-clause-pod : goal.returns-clause-pod
returns-clause-pod c = lemmas.encoding_conveyed

pub returns-clause-shorter : goal.returns-clause-shorter
returns-clause-shorter c = lemmas.no_longer_conveyed
