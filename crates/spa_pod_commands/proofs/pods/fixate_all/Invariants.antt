use Rattle.std.proofs.Common.{◌≡◌, ◌≤◌, ◌-◌, length}
use Rattle.spa_pod_commands.proofs.Fixating.{FixatedSoFar}
use Rattle.spa_pod_commands.proofs.pods.fixate_all.Given as goal

abbrev pub invariant-loop-extent : goal.invariant-loop-extent
invariant-loop-extent l = (l.at ≤ length l.bytes) × (length l.bytes ≡ length l.initial.bytes) × FixatedSoFar l.initial.bytes l.at l.bytes

abbrev pub decreases-loop-extent : goal.decreases-loop-extent
decreases-loop-extent l = length l.bytes - l.at
