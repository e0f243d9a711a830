use Rattle.std.proofs.Common.{length}
use Rattle.spa_text_read.specs.Places.{Opens}
use Rattle.spa_text_read.specs.Trails.{opens_of}
use Rattle.spa_text_read.proofs.place.path_to.Given as goal

abbrev pub invariant-loop-reader : goal.invariant-loop-reader
invariant-loop-reader l = Opens l.fn.reader (opens_of l.trail.items) l.reader

abbrev pub decreases-loop-reader : goal.decreases-loop-reader
decreases-loop-reader l = length l.reader
