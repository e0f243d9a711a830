use Rattle.std.proofs.Common.{◌+◌, ◌-◌, ◌*◌, length}
use Rattle.spa_events.proofs.Open.{Stands}
use Rattle.spa_events.proofs.listing.list_events.Given as goal

abbrev pub invariant-loop-event : goal.invariant-loop-event
invariant-loop-event l = Stands l.input l.initial.out l.out l.count l.level

abbrev pub decreases-loop-event : goal.decreases-loop-event
decreases-loop-event l = 2 * (length l.out - l.count) + l.level.depth
