use Rattle.spa_builder.proofs.Making as lemmas
use Rattle.spa_builder.proofs.laws.values_are_made_call_by_call.Goals as goal

pub returns-clause-made : goal.returns-clause-made
returns-clause-made c s t v e = lemmas.made v s t e

pub returns-clause-built : goal.returns-clause-built
returns-clause-built c v w = lemmas.made_from_start v w

pub returns-clause-begins : goal.returns-clause-begins
returns-clause-begins c v b w at = lemmas.begins v b w at
