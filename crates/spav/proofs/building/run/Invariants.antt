use Rattle.std.proofs.Common.{length, take, ◌-◌, ◌≤◌}
use Rattle.spa_builder.specs.Fields.{IsAt}
use Rattle.spa_builder.specs.State.{State, start}
use Rattle.spav.specs.Building.{Leads}
use Rattle.spav.proofs.building.run.Given as goal

abbrev pub invariant-loop-at : goal.invariant-loop-at
invariant-loop-at l = (l.at ≤ length l.calls) × ((s : State) × Leads l.texts start (take l.at l.calls) s × IsAt l.builder s)

abbrev pub decreases-loop-at : goal.decreases-loop-at
decreases-loop-at l = length l.calls - l.at
