use Rattle.std.specs.Prelude.{string_bytes}
use Rattle.spa_pod_commands.proofs.Levels.{SoFar, weight}
use Rattle.spa_pod_commands.proofs.listing.list.Given as goal

abbrev pub invariant-loop-level : goal.invariant-loop-level
invariant-loop-level g l =
    SoFar l.pods (g.W.Write.contents l.fn.output) (string_bytes l.fn.lines) (g.W.Write.contents l.output)
    (string_bytes l.lines) l.levels.items

abbrev pub decreases-loop-level : goal.decreases-loop-level
decreases-loop-level g l = weight l.levels.items
