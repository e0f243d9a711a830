use Rattle.spa_object_view.proofs.ObjectPods.{begins_object}
use Rattle.spa_object_view.proofs.Meetings.{first_stopped, second_stopped}
use Rattle.spa_bytes.proofs.Passing.{passed_on}
use Rattle.std.proofs.lemmas.Result.{IfErr-weaker, IfOk-weaker}
use Rattle.spa_object_view.proofs.meeting.meet_pods.Goals as goal

pub returns-in_err-first-clause-cause : goal.returns-in_err-first-clause-cause
returns-in_err-first-clause-cause g c =
    passed_on _ _ _ c.from_residual.ensures.1 (first_stopped _ _ c.args.a.now c.args.b.now _ c.in_err-first.ensures.cause)

pub returns-in_err-second-clause-cause : goal.returns-in_err-second-clause-cause
returns-in_err-second-clause-cause g c =
    passed_on _ _ _ c.from_residual-in_err-second.ensures.1
    (second_stopped _ _ c.args.a.now c.args.b.now (begins_object _ _ c.in_ok-first.ensures.object) _ c.in_err-second.ensures.cause)

pub returns-clause-met : goal.returns-clause-met
returns-clause-met g c =
    IfOk-weaker c.meet_viewed.result _ _ (λ bytes f. f _ _ c.in_ok-first.ensures.object c.in_ok-second.ensures.object) c.meet_viewed.ensures.met

pub returns-clause-cause : goal.returns-clause-cause
returns-clause-cause g c =
    IfErr-weaker c.meet_viewed.result _ _ (λ e f. f _ _ c.in_ok-first.ensures.object c.in_ok-second.ensures.object) c.meet_viewed.ensures.cause
