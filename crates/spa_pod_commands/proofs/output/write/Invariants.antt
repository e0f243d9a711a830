use Rattle.spa_pod_commands.proofs.Running.{HasBegun}
use Rattle.spa_pod_commands.proofs.output.write.Given as goal

abbrev pub invariant-loop : goal.invariant-loop
invariant-loop g l = HasBegun (g.W.Write.contents l.fn.device) (g.W.Write.contents l.device) l.bytes l.left
