use Rattle.std.proofs.Common.{◌≡◌, take}
use Rattle.std.specs.Cmp.Lexicographic.{pointwise}
use Rattle.spa_value.proofs.elements.same_block.Given as goal

abbrev pub invariant-loop-place : goal.invariant-loop-place
invariant-loop-place g l = l.is_same ≡ pointwise g.T.PartialEq.eq (take l.place l.block) (take l.place l.other)
