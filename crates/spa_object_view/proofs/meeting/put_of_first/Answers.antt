use Rattle.std.proofs.lemmas.Result.{on_ok_weaker, IfErr-weaker}
use Rattle.spa_object_view.proofs.meeting.put_of_first.Goals as goal

pub returns-in-Some-clause-put : goal.returns-in-Some-clause-put
returns-in-Some-clause-put g c =
    on_ok_weaker c.put_both.result
    (λ put v qs w list. let f = c.in-Some.ensures.found qs list in rw f.is_found (put v f.value w f.written))
    c.put_both.ensures.put

pub returns-in-Some-clause-cause : goal.returns-in-Some-clause-cause
returns-in-Some-clause-cause g c =
    IfErr-weaker c.put_both.result _ _
    (λ e refused v qs w list. let f = c.in-Some.ensures.found qs list in rw f.is_found (refused v f.value w f.written))
    c.put_both.ensures.cause

pub returns-in-None-clause-put : goal.returns-in-None-clause-put
returns-in-None-clause-put g c =
    on_ok_weaker c.put_alone.result (λ put v qs w list. rw (c.in-None.ensures.found qs list) (put v w)) c.put_alone.ensures.first

pub returns-in-None-clause-cause : goal.returns-in-None-clause-cause
returns-in-None-clause-cause g c =
    IfErr-weaker c.put_alone.result _ _ (λ e refused v qs w list. rw (c.in-None.ensures.found qs list) (refused v)) c.put_alone.ensures.first_cause
