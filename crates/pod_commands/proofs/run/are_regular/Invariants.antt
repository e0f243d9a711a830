use Rattle.std.proofs.Common.{drop}
use Rattle.pod_commands.proofs.Twice.{AreFilesSoFar}
use Rattle.pod_commands.proofs.run.are_regular.Given as goal

abbrev pub invariant-loop-name : goal.invariant-loop-name
invariant-loop-name g l = AreFilesSoFar l.names (drop l.name-index l.names)
