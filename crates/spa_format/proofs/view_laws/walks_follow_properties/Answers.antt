use Rattle.spa_format.proofs.WalkLemmas as lemmas
use Rattle.spa_format.proofs.view_laws.walks_follow_properties.Goals as goal

pub returns-clause-there : goal.returns-clause-there
returns-clause-there c = lemmas.property_walk-there

pub returns-clause-end : goal.returns-clause-end
returns-clause-end c = lemmas.property_walk-end
