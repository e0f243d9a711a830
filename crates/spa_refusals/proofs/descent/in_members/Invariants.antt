use Rattle.std.proofs.Common.{◌≤◌, length}
use Rattle.spa_canonical.specs.Look.{from_members}
use Rattle.spa_refusals.specs.Paths.{IsFaultIn}
use Rattle.spa_refusals.proofs.Passing.{PassedMembers}
use Rattle.spa_refusals.proofs.descent.in_members.Given as goal

abbrev pub invariant-loop-rest : goal.invariant-loop-rest
invariant-loop-rest l = PassedMembers l.members l.left l.count × IsFaultIn from_members l.left l.fault.place.now l.offset l.fault.why × (l.offset ≤ l.at)

abbrev pub decreases-loop-rest : goal.decreases-loop-rest
decreases-loop-rest l = length l.left
