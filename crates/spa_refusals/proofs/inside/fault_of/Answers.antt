use Rattle.spa_refusals.proofs.Descending.{fault_of_first, fault_of_none}
use Rattle.spa_refusals.proofs.inside.fault_of.Goals as goal

pub returns-in-Ok : goal.returns-in-Ok
returns-in-Ok c = fault_of_none c.args.pod.now c.in-Ok.ensures.accepted c.requires

pub returns-in-Fault : goal.returns-in-Fault
returns-in-Fault c =
    fault_of_first c.args.pod.now _ _ c.in-Fault.at c.in-Fault.why c.requires c.in-Err.ensures.left (rw c.in-Fault.is at c.in-Err.ensures.rejected)
