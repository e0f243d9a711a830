use Rattle.std.proofs.Common.{drop}
use Rattle.pod_commands.proofs.Listed.{ListedSoFar}
use Rattle.pod_commands.proofs.answer.report_pods.Given as goal

abbrev pub invariant-loop-pod : goal.invariant-loop-pod
invariant-loop-pod g l = ListedSoFar (g.E.Write.contents l.fn.faults) (g.E.Write.contents l.faults) l.pods (drop l.pod-index l.pods)
