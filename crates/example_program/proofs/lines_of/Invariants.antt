use Rattle.std.proofs.Common.{length}
use Rattle.example_program.proofs.lines_of.Given as goal

-- What is left becomes shorter by a whole pod.
abbrev pub decreases-loop-left : goal.decreases-loop-left
decreases-loop-left l = length l.left
