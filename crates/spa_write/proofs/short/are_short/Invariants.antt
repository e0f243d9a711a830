use Rattle.spa_write.proofs.Shorts.{ShortAt, ShortAtFour}
use Rattle.spa_write.proofs.short.are_short.Given as goal

abbrev pub invariant-loop-index : goal.invariant-loop-index
invariant-loop-index l = ShortAtFour l.values l.part l.index

abbrev pub invariant-loop-index-2 : goal.invariant-loop-index-2
invariant-loop-index-2 l = ShortAt l.values 0 l.index
