use Rattle.spa_canonical.proofs.Stretches.{list_refused}
use Rattle.spa_rewrite.proofs.rewriting.accept_all.Goals as goal

pub returns-in-Err-clause-refused : goal.returns-in-Err-clause-refused
returns-in-Err-clause-refused c =
    list_refused _ _ _ c.in-Err.ensures.left (c.refusal_for.ensures.refused _ c.in-Err.ensures.rejected).refused
