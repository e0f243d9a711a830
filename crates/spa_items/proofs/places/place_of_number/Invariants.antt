use Rattle.std.proofs.Common.{length}
use Rattle.spa_format.specs.Walk.{walk_behind}
use Rattle.spa_items.specs.Places.{place_of_number}
use Rattle.spa_items.proofs.Placed.{Passed}
use Rattle.spa_items.proofs.places.place_of_number.Given as goal

abbrev pub invariant-loop-first : goal.invariant-loop-first
invariant-loop-first l = Passed l.members l.left (place_of_number l.number (walk_behind 0 l.members)) (place_of_number l.before (walk_behind 0 l.left))

abbrev pub decreases-loop-first : goal.decreases-loop-first
decreases-loop-first l = length l.left
