use Rattle.std.proofs.Common.{drop}
use Rattle.spa_text_read.proofs.Trailing.{LeadsOn}
use Rattle.spa_text_read.proofs.place.path_through.Given as goal

abbrev pub invariant-loop-step : goal.invariant-loop-step
invariant-loop-step l = LeadsOn l.trail l.path.bytes.items (drop l.step-index l.trail)
