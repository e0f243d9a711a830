use Rattle.spa_meet_commands.proofs.Agreeing.{unfiltered_apart}
use Rattle.spa_meet_commands.proofs.pair.agreed.Goals as goal

pub returns-in-Err-clause-cause : goal.returns-in-Err-clause-cause
returns-in-Err-clause-cause c = unfiltered_apart c.args.work c.args.a.now c.args.b.now _ c.in-Err.ensures.refused c.in-Err.ensures.cause
