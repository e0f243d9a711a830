use Rattle.std.proofs.Common.{◌∷◌, reverse}
use Rattle.spa_value.specs.View.{view}
use Rattle.spa_write.specs.Nesting.{AwaitsAllClosing, bytes_left}
use Rattle.spa_write.proofs.nested.write_by_loop.Given as goal

abbrev pub invariant-loop-outer : goal.invariant-loop-outer
invariant-loop-outer l = AwaitsAllClosing (view l.fn.value) (l.inner ∷ reverse l.outer.items) l.out.items

abbrev pub decreases-loop-outer : goal.decreases-loop-outer
decreases-loop-outer l = bytes_left (l.inner ∷ reverse l.outer.items)
