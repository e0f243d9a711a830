use Rattle.spa_meet_commands.proofs.Agreeing.{unfiltered_apart}
use Rattle.std.proofs.lemmas.Result.{IfErr-weaker}
use Rattle.spa_meet_commands.proofs.pair.agreed_viewed.Goals as goal

pub returns-in-Ok-clause-cause : goal.returns-in-Ok-clause-cause
returns-in-Ok-clause-cause c = IfErr-weaker c.worked.result _ _ (λ e f a b h k. f a b (c.in-Ok.ensures.value a b h k)) c.worked.ensures.cause

pub returns-in-Err-clause-cause : goal.returns-in-Err-clause-cause
returns-in-Err-clause-cause c = λ a b h k.
    unfiltered_apart c.args.work a b c.in-Err.error (c.in-Err.ensures.refused a b h k) (c.in-Err.ensures.cause a b h k)
