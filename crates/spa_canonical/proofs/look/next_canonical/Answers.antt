use Rattle.std.proofs.Common.{refl}
use Rattle.spa_canonical.proofs.look.next_canonical.Goals as goal

pub returns-in-Stops-clause-missed : goal.returns-in-Stops-clause-missed
returns-in-Stops-clause-missed c = λ rest k. absurd (c.in-Stops.ensures.0 refl rest k)
