use Rattle.spa_format.proofs.WalkLemmas as lemmas
use Rattle.spa_format.proofs.view_laws.walks_are_short.Goals as goal

pub returns-clause-pods : goal.returns-clause-pods
returns-clause-pods c = lemmas.length-walk_behind 0

pub returns-clause-properties : goal.returns-clause-properties
returns-clause-properties c = lemmas.length-walk_behind 8
