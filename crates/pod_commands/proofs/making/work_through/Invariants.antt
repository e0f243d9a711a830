use Rattle.std.proofs.Common.{length}
use Rattle.pod_commands.proofs.Through.{ThroughSoFar}
use Rattle.pod_commands.proofs.making.work_through.Given as goal

abbrev pub invariant-loop-out : goal.invariant-loop-out
invariant-loop-out l =
    ThroughSoFar l.job.name.now l.job.manner.reading l.job.manner.refused l.job.making l.input l.fn.said.items l.before l.left l.out.items l.said.items

abbrev pub decreases-loop-out : goal.decreases-loop-out
decreases-loop-out l = length l.left
