use Rattle.std.proofs.Common.{length}
use Rattle.spa_format.specs.Walk.{walk_behind}
use Rattle.spa_items.specs.Places.{place_of_key}
use Rattle.spa_items.proofs.Placed.{Passed}
use Rattle.spa_items.proofs.places.place_of_key.Given as goal

abbrev pub invariant-loop-first : goal.invariant-loop-first
invariant-loop-first l = Passed l.properties l.left (place_of_key l.key (walk_behind 8 l.properties)) (place_of_key l.key (walk_behind 8 l.left))

abbrev pub decreases-loop-first : goal.decreases-loop-first
decreases-loop-first l = length l.left
