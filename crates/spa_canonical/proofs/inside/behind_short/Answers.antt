use Rattle.spa_canonical.proofs.Looks.{goes_on, passes_none}
use Rattle.spa_canonical.proofs.Words.{bytes_of}
use Rattle.spa_canonical.proofs.inside.behind_short.Goals as goal

pub returns-in_default : goal.returns-in_default
returns-in_default c = passes_none _ _ _ (bytes_of _ c.type_inv.pods)

pub loop-rest-init : goal.loop-rest-init
loop-rest-init c = c.in-Some.ensures.passed

pub loop-rest-preserved : goal.loop-rest-preserved
loop-rest-preserved c = goes_on _ _ _ _ _ _ _ _ _ 0 0 c.loop-rest.invariant c.in-Some-behind_short_one.ensures.passed
