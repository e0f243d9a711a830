use Rattle.std.proofs.Common.{◌≡◌, length}
use Rattle.spa_dict.specs.Left.{pairs_left, text_values_left}
use Rattle.spa_dict.proofs.iter.ValuesIterator.next.Given as goal

-- what was passed over is no text
abbrev pub invariant-loop-value : goal.invariant-loop-value
invariant-loop-value l = text_values_left l.self ≡ text_values_left l.fn.self

abbrev pub decreases-loop-value : goal.decreases-loop-value
decreases-loop-value l = length (pairs_left l.self.inner)
