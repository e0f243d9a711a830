use Rattle.spa_recordings.proofs.Going.{found_at, not_members}
use Rattle.spa_recordings.proofs.going_on.fault_place.Goals as goal

pub unreachable-requires : goal.unreachable-requires
unreachable-requires c = not_members c.args.pod.left.now c.args.pod.kind.now c.requires (c.in-Ok.ensures.accepted)

pub returns-in-Fault-clause-to : goal.returns-in-Fault-clause-to
returns-in-Fault-clause-to c =
    (found_at c.args.pod.left.now c.args.pod.kind.now _ _ c.in-Fault.at c.in-Fault.field-2 c.requires c.in-Err.ensures.left
    (rw c.in-Fault.is at c.in-Err.ensures.rejected)).0

pub returns-in-Fault-clause-within : goal.returns-in-Fault-clause-within
returns-in-Fault-clause-within c =
    (found_at c.args.pod.left.now c.args.pod.kind.now _ _ c.in-Fault.at c.in-Fault.field-2 c.requires c.in-Err.ensures.left
    (rw c.in-Fault.is at c.in-Err.ensures.rejected)).1
