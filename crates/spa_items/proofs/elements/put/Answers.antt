use Rattle.std.proofs.Common.{arith}
use Rattle.spa_items.proofs.Overlays.{one_missed, one_put}
use Rattle.spa_items.proofs.elements.put.Goals as goal

pub returns-then-place-out : goal.returns-then-place-out
returns-then-place-out c = one_put _ _ _ c.if-place-out.true

pub returns-else-place-out : goal.returns-else-place-out
returns-else-place-out c = let h = c.if-place-out.false in one_missed _ _ _ (omega arith)
