use Rattle.std.proofs.Common.{◌≡◌}
use Rattle.spa_value.specs.NestedCopies.{copied, nested_view, steps_left}
use Rattle.spa_value.proofs.nested_copies.copy_by_loop.Given as goal

abbrev pub invariant-loop-copies : goal.invariant-loop-copies
invariant-loop-copies l = copied l.copies ≡ nested_view l.fn.nested

abbrev pub decreases-loop-copies : goal.decreases-loop-copies
decreases-loop-copies l = steps_left l.copies
