use Rattle.spa_lenient.proofs.Fronts.{exactly}
use Rattle.spa_lenient.proofs.rewriting.rewrite_leniently.Goals as goal

pub returns-in-Ok-clause-rewriting : goal.returns-in-Ok-clause-rewriting
returns-in-Ok-clause-rewriting c = exactly _ _ c.in-Ok.ensures.rewriting
