use Rattle.std.specs.Prelude.{⊤}
use Rattle.spa_print.proofs.Steps.{steps}
use Rattle.spa_print.proofs.printed.PrintedDebug.fmt.Given as goal

abbrev pub invariant-loop-outer : goal.invariant-loop-outer
invariant-loop-outer o l = ⊤

abbrev pub decreases-loop-outer : goal.decreases-loop-outer
decreases-loop-outer o l = steps l.inner l.outer.items
