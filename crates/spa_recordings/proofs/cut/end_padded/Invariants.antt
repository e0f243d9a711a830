use Rattle.std.proofs.Common.{◌-◌, length, take}
use Rattle.spa_recordings.proofs.Ended.{EndsSoFar}
use Rattle.spa_recordings.proofs.cut.end_padded.Given as goal

abbrev pub invariant-loop-inner : goal.invariant-loop-inner
invariant-loop-inner l = EndsSoFar (take l.there l.initial.bytes) l.bytes l.at

abbrev pub decreases-loop-inner : goal.decreases-loop-inner
decreases-loop-inner l = length l.bytes - l.at
