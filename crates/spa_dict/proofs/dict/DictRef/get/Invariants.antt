use Rattle.std.proofs.Common.{◌≡◌}
use Rattle.spa_dict.specs.Left.{text_pairs_left}
use Rattle.spa_dict.specs.Pairs.{first_value, text_pairs}
use Rattle.spa_dict.specs.Reading.{pairs}
use Rattle.spa_dict.proofs.dict.DictRef.get.Given as goal

-- the first pair with the key is still to come
abbrev pub invariant-loop-name : goal.invariant-loop-name
invariant-loop-name l =
    (goal.iterator-loop-name).can_next l.pairs ×
    (goal.iterator-loop-name).is_finite l.pairs ×
    (first_value l.key (text_pairs_left l.pairs) ≡ first_value l.key (text_pairs (pairs l.self)))
