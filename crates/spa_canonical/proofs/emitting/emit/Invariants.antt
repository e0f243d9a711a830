use Rattle.std.proofs.Common.{◌+◌, ◌-◌, ◌*◌, length}
use Rattle.spa_canonical.proofs.Emitted.{Emits}
use Rattle.spa_canonical.proofs.emitting.emit.Given as goal

abbrev pub invariant-loop-inner : goal.invariant-loop-inner
invariant-loop-inner l = Emits l.initial.bytes l.bytes l.from l.to l.list

abbrev pub decreases-loop-inner : goal.decreases-loop-inner
decreases-loop-inner l = 2 * (length l.bytes - l.from) + l.list.depth
