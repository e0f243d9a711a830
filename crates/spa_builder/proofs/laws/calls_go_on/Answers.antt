use Rattle.spa_builder.proofs.Making as lemmas
use Rattle.spa_builder.proofs.laws.calls_go_on.Goals as goal

pub returns-clause-answered : goal.returns-clause-answered
returns-clause-answered c n t d cs old new r h f = lemmas.goes_on n t d cs old new r h f

pub returns-clause-begun : goal.returns-clause-begun
returns-clause-begun c n t d cs old new r h f = lemmas.goes_on n t d cs old new r h f

pub returns-clause-last : goal.returns-clause-last
returns-clause-last c n t d old new r h f = lemmas.at_end n t d old new r h f

pub returns-clause-frame : goal.returns-clause-frame
returns-clause-frame c n m frame t cs b e h = lemmas.closed_by n m frame t cs b e h
