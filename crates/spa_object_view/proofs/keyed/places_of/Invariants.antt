use Rattle.std.proofs.Common.{◌≤◌, length}
use Rattle.spa_format.specs.Tree.{Properties}
use Rattle.spa_object_view.specs.Written.{AreWritten}
use Rattle.spa_object_view.proofs.KeyOrders.{ArePlaced}
use Rattle.spa_object_view.proofs.keyed.places_of.Given as goal

abbrev pub invariant-loop-first : goal.invariant-loop-first
invariant-loop-first l = record {
  shorter : length l.left ≤ length l.properties;
  placed : (ps : Properties) → AreWritten ps l.properties → ArePlaced ps l.properties l.left l.places.items;
}

abbrev pub decreases-loop-first : goal.decreases-loop-first
decreases-loop-first l = length l.left
