use Rattle.std.proofs.Common.{refl}
use Rattle.spa_canonical.proofs.look.accept_front.Goals as goal

pub returns-in-Stops-clause-rejected : goal.returns-in-Stops-clause-rejected
returns-in-Stops-clause-rejected c = (c.in-Stops.ensures.1 refl).named _ c.fault.ensures
