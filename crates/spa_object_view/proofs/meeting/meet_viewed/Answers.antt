use Rattle.std.proofs.lemmas.Result.{IfErr-weaker, IfOk-weaker}
use Rattle.spa_object_view.proofs.meeting.meet_viewed.Goals as goal

pub returns-in_default-clause-cause : goal.returns-in_default-clause-cause
returns-in_default-clause-cause g c = λ a b h k. absurd (c.in_default.ensures.none a h)

pub returns-in_default-view-clause-cause : goal.returns-in_default-view-clause-cause
returns-in_default-view-clause-cause g c = λ a b h k. absurd (c.in_default-view.ensures.none b k)

pub returns-clause-met : goal.returns-clause-met
returns-clause-met g c =
    IfOk-weaker c.meet_objects.result _ _ (λ bytes f a b h k. f a b (c.in-Some.ensures.object a h) (c.in-Some-view.ensures.object b k)) c.meet_objects.ensures.met

pub returns-clause-cause : goal.returns-clause-cause
returns-clause-cause g c =
    IfErr-weaker c.meet_objects.result _ _ (λ e f a b h k. f a b (c.in-Some.ensures.object a h) (c.in-Some-view.ensures.object b k)) c.meet_objects.ensures.cause
