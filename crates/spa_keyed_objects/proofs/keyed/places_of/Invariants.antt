use Rattle.std.proofs.Common.{ℕ, ◌≤◌, length, drop}
use Rattle.std.specs.BTreeMap.{get}
use Rattle.std.specs.Ordering.{nat_cmp}
use Rattle.spa_keyed_objects.specs.PropertyLists.{offered_in, IsFoundAt}
use Rattle.spa_keyed_objects.proofs.keyed.places_of.Given as goal

abbrev pub invariant-loop-left : goal.invariant-loop-left
invariant-loop-left l =
    (l.left ≤ length l.properties)
    × ((key : ℕ) →
    IsFoundAt l.properties (offered_in key (drop l.left l.properties)) (get nat_cmp l.places key))

abbrev pub decreases-loop-left : goal.decreases-loop-left
decreases-loop-left l = l.left
