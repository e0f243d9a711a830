use Rattle.std.proofs.Common.{◌≡◌, ◌+◌, ◌-◌, ◌≤◌, ◌++◌, length, false}
use Rattle.spa_format.specs.Words.{padded_size}
use Rattle.spa_items.specs.Items.{items_in}
use Rattle.spa_items.proofs.Overlays.{ArePutOf}
use Rattle.spa_items.proofs.Waiting.{AreWithin, left_waiting, waiting_in, waiting_items}
use Rattle.spa_items.proofs.listing.list_pods.Given as goal

abbrev pub invariant-loop-first : goal.invariant-loop-first
invariant-loop-first l = record {
  put : ArePutOf 0 (items_in l.levels 0 false 0 l.pods)
      (items_in (l.levels - l.depth) l.depth l.level.keyed l.level.at l.level.pods.now
      ++ waiting_items l.levels (l.level.at + length l.level.pods.now) (waiting_in l.outer l.depth))
      l.initial.out l.place l.out;
  deep : l.depth ≤ l.levels - 1;
  room : l.place + (length l.level.pods.now + left_waiting (waiting_in l.outer l.depth)) ≤ length l.pods;
  whole : padded_size l.level.at ≡ l.level.at;
  ends : l.level.at + length l.level.pods.now ≤ length l.pods;
  within : AreWithin (length l.pods) (l.level.at + length l.level.pods.now) (waiting_in l.outer l.depth);
}

abbrev pub decreases-loop-first : goal.decreases-loop-first
decreases-loop-first l = length l.level.pods.now + left_waiting (waiting_in l.outer l.depth)
