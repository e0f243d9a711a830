use Rattle.std.proofs.Common.{sym, subst}
use Rattle.spa_recordings.specs.declared.reading.Reading.TheVariants.{Exact}
use Rattle.spa_refusals.specs.Refusals.{IsUnreadFor}
use Rattle.spa_refusals.proofs.Descending.{unread_for}
use Rattle.spa_refusals.proofs.inside.innermost.Goals as goal

pub returns-clause-why : goal.returns-clause-why
returns-clause-why c =
    subst (IsUnreadFor Exact c.in_ok-path.inner.now) (sym c.error_at-error.ensures) (unread_for _ _ _ c.in_ok-path.ensures.fault)
