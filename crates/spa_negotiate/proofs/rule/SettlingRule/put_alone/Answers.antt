use Rattle.std.proofs.Common.{refl}
use Rattle.spa_negotiate.proofs.Putting.{met_alone}
use Rattle.spa_filter.proofs.FixedObjects.{IsPlain-plain_of}
use Rattle.spa_negotiate.proofs.rule.SettlingRule.put_alone.Goals as goal

pub returns-clause-first : goal.returns-clause-first
returns-clause-first c = λ v w.
    met_alone _ _ v _ _ _ (refl, IsPlain-plain_of v, tt, refl) refl (c.put_default.ensures c.if-not-put_default.false v w)

pub returns-clause-second : goal.returns-clause-second
returns-clause-second c = λ v w.
    met_alone _ _ v _ _ _ (refl, IsPlain-plain_of v, tt, refl) refl (c.put_default.ensures c.if-not-put_default.false v w)
