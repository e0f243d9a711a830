use Rattle.spa_events.specs.Inside.{key_size}
use Rattle.spa_recordings.proofs.Likely.{LooksSoFar}
use Rattle.spa_recordings.proofs.plausible.are_whole_first.Given as goal

abbrev pub invariant-loop-count : goal.invariant-loop-count
invariant-loop-count l = LooksSoFar (key_size l.keyed) l.pods l.left l._count
