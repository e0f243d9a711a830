use Rattle.std.proofs.Common.{◌≡◌, length}
use Rattle.spa_dict.specs.Left.{pairs_left, text_keys_left}
use Rattle.spa_dict.proofs.iter.KeysIterator.next.Given as goal

-- what was passed over is no text
abbrev pub invariant-loop-key : goal.invariant-loop-key
invariant-loop-key l = text_keys_left l.self ≡ text_keys_left l.fn.self

abbrev pub decreases-loop-key : goal.decreases-loop-key
decreases-loop-key l = length (pairs_left l.self.inner)
