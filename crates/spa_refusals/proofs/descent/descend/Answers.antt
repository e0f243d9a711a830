use Rattle.std.proofs.Common.{refl}
use Rattle.spa_refusals.specs.Paths.{further}
use Rattle.spa_refusals.proofs.Stepping.{leads_first}
use Rattle.spa_refusals.proofs.descent.descend.Goals as goal

pub loop-path-init : goal.loop-path-init
loop-path-init c = (leads_first _ _ _ refl c.new-path.ensures.bytes, c.requires)

pub loop-path-preserved : goal.loop-path-preserved
loop-path-preserved c = (
  further _ _ _ _ c.loop-path.invariant.0 (rw c.in-Some.is at c.in_ok-found.ensures.step),
  rw c.in-Some.is at c.in_ok-found.ensures.fault,
)
