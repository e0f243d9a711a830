use Rattle.std.proofs.Common.{◌+◌, ◌<◌, List, length, reverse, take, ℕ}
use Rattle.std.specs.Prelude.{Bool}
use Rattle.spa_canonical.specs.Look.{Onward}
use Rattle.spa_canonical.proofs.Looks.{AwaitsAll, left_waiting}
use Rattle.spa_canonical.proofs.inside.look_inside.Given as goal

abbrev pub invariant-loop-next : goal.invariant-loop-next
invariant-loop-next l =
    ((all : Bool) (pods : List ℕ) → Onward l.canonical all pods (reverse (take (l.around + 1) l.initial.frames)) l.counted →
    AwaitsAll l.canonical all pods (reverse (take l.waiting l.frames)) l.keyed l.left l.behind l.surplus)
    × (l.waiting < length l.frames)

abbrev pub decreases-loop-next : goal.decreases-loop-next
decreases-loop-next l = length l.left + left_waiting (reverse (take l.waiting l.frames))
