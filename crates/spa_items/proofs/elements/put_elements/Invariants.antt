use Rattle.std.proofs.Common.{◌-◌, ◌+◌, ◌*◌, ◌≤◌, length}
use Rattle.std.specs.Simd.{first_chunks}
use Rattle.spa_items.specs.Contents.{elements_along}
use Rattle.spa_items.proofs.Overlays.{ArePutOf}
use Rattle.spa_items.proofs.elements.put_elements.Given as goal

abbrev pub invariant-loop-done : goal.invariant-loop-done
invariant-loop-done l =
    ArePutOf l.place (elements_along l.elements.type_ l.depth l.elements.size l.elements.at (first_chunks l.elements.size l.elements.count l.elements.bytes.now))
    (elements_along l.elements.type_ l.depth l.elements.size l.begins (first_chunks l.elements.size (l.elements.count - l.done) l.left)) l.initial.out (l.place + l.done) l.out
    × (l.done ≤ l.elements.count)
    × ((l.elements.count - l.done) * l.elements.size ≤ length l.left)
    × (l.begins + length l.left ≤ l.elements.at + length l.elements.bytes.now)

abbrev pub decreases-loop-done : goal.decreases-loop-done
decreases-loop-done l = l.elements.count - l.done
