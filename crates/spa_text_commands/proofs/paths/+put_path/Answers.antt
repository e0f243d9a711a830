use Rattle.std.proofs.Common.{arith, refl}
use Rattle.std.proofs.lemmas.Result.{on_ok_weaker}
use Rattle.spa_text_commands.proofs.Stepping.{next_step}
use Rattle.spa_text_commands.proofs.paths.+put_path.Goals as goal

pub returns : goal.returns
returns n c =
    on_ok_weaker c.put_step.result
    (λ e. next_step c.args.limit _ c.args.events.now c.args.numbers.now c.args.pod.now _ _ _ c.args.number _ _ _ c.requires.numbers c.requires.number
    c.event_at-event.ensures (let f = c.if-event-events.false in omega (arith, f)) c.event_at.ensures refl (let f = c.if-limit-eq0.false in omega (arith, f))
    c.in_ok-put_path.ensures e) c.put_step.ensures
