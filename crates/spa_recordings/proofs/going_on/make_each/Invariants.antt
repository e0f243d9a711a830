use Rattle.std.proofs.Common.{length}
use Rattle.spa_recordings.proofs.Going.{MadeSoFar}
use Rattle.spa_recordings.proofs.going_on.make_each.Given as goal

abbrev pub invariant-loop-behind : goal.invariant-loop-behind
invariant-loop-behind g l =
    MadeSoFar l.manner.reading l.manner.refused (g.M.Maker.makes l.maker) l.start l.input l.fn.made.out.items l.fn.made.refused.items
    l.at l.left l.made.out.items l.made.refused.items

abbrev pub decreases-loop-behind : goal.decreases-loop-behind
decreases-loop-behind g l = length l.left
