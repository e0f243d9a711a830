use Rattle.std.proofs.Common.{length}
use Rattle.spa_text_read.specs.Seen.{frame_of}
use Rattle.spa_text_read.specs.Begun.{stack_of}
use Rattle.spa_text_read.proofs.Strictly.{IsReading}
use Rattle.spa_text_read.proofs.reading.read_value.Given as goal

abbrev pub invariant-loop-nest : goal.invariant-loop-nest
invariant-loop-nest l = IsReading l.fn.strictness l.fn.reader (frame_of l.nest.inner) (stack_of l.nest.outer.items) l.reader

abbrev pub decreases-loop-nest : goal.decreases-loop-nest
decreases-loop-nest l = length l.reader
