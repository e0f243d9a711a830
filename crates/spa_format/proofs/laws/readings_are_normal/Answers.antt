use Rattle.spa_format.proofs.Origin as lemmas
use Rattle.spa_format.proofs.laws.readings_are_normal.Goals as goal

pub returns-clause-normal : goal.returns-clause-normal
returns-clause-normal c = lemmas.normal

pub returns-clause-typed : goal.returns-clause-typed
returns-clause-typed c = lemmas.typed

pub returns-clause-writable : goal.returns-clause-writable
returns-clause-writable c = lemmas.writable
