use Rattle.std.proofs.Common.{◌≡◌, length}
use Rattle.spa_events.specs.Inside.{key_size}
use Rattle.spa_recordings.specs.Cut.{behind_whole}
use Rattle.spa_recordings.proofs.cut.behind_whole.Given as goal

abbrev pub invariant-loop-front : goal.invariant-loop-front
invariant-loop-front l = behind_whole (key_size l.keyed) l.left ≡ behind_whole (key_size l.keyed) l.pods

abbrev pub decreases-loop-front : goal.decreases-loop-front
decreases-loop-front l = length l.left
