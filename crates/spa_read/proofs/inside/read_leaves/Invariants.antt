use Rattle.spa_read.proofs.Readings.{is_lenient}
use Rattle.std.proofs.Common.{length}
use Rattle.spa_read.specs.Nesting.{ReadsPods}
use Rattle.spa_read.proofs.inside.read_leaves.Given as goal

abbrev pub invariant-loop-alloc : goal.invariant-loop-alloc
invariant-loop-alloc g l =
    let inside = g.G.Grows.inside in
    ReadsPods (is_lenient g.row.LENIENT) (inside l.fn.to) l.fn.left.now l.fn.opened (inside l.to) l.left.now l.opened

abbrev pub decreases-loop-alloc : goal.decreases-loop-alloc
decreases-loop-alloc g l = length l.left.now
