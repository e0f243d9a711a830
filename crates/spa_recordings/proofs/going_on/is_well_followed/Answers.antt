use Rattle.std.proofs.Common.{arith}
use Rattle.spa_recordings.proofs.Going.{followed_by, followed_end}
use Rattle.spa_recordings.proofs.going_on.is_well_followed.Goals as goal

pub returns-then-is_empty : goal.returns-then-is_empty
returns-then-is_empty c =
    followed_end _ _ _ _ _ c.in-Some.ensures.there (grind (arith, c.is_empty.ensures, c.if-is_empty.true)) c.if-is_empty.true

pub returns-else-is_empty : goal.returns-else-is_empty
returns-else-is_empty c =
    followed_by _ _ _ _ _ c.in-Some.ensures.there (λ e. grind (arith, e, c.is_empty.ensures, c.if-is_empty.false)) c.is_plausible.ensures
