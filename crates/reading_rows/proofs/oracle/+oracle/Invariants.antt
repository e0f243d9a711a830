use Rattle.std.proofs.Common.{◌+◌, ◌*◌, ◌≤◌, length}
use Rattle.reading_rows.proofs.oracle.+oracle.Given as goal

abbrev pub decreases-read : goal.decreases-read
decreases-read l = 2 * length l.input.now

abbrev pub decreases-say_object : goal.decreases-say_object
decreases-say_object l = 2 * length l.body.now + 1

abbrev pub decreases-say_struct : goal.decreases-say_struct
decreases-say_struct l = 2 * length l.body.now + 1

abbrev pub invariant-say_object-loop-left : goal.invariant-say_object-loop-left
invariant-say_object-loop-left l = (length l.left ≤ l.whole) × (l.whole ≤ length l.body)

abbrev pub decreases-say_object-loop-left : goal.decreases-say_object-loop-left
decreases-say_object-loop-left l = length l.left

abbrev pub invariant-say_struct-loop-left : goal.invariant-say_struct-loop-left
invariant-say_struct-loop-left l = length l.left ≤ length l.body

abbrev pub decreases-say_struct-loop-left : goal.decreases-say_struct-loop-left
decreases-say_struct-loop-left l = length l.left
