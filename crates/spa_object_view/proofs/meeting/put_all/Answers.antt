use Rattle.std.proofs.lemmas.Result.{on_ok_weaker, IfErr-weaker}
use Rattle.spa_bytes.proofs.Passing.{passed_on}
use Rattle.spa_object_view.proofs.meeting.put_all.Goals as goal

pub returns-in_err-put_first-clause-cause : goal.returns-in_err-put_first-clause-cause
returns-in_err-put_first-clause-cause g c = passed_on _ _ _ c.from_residual.ensures.1 c.in_err-put_first.ensures.cause

pub returns-clause-put : goal.returns-clause-put
returns-clause-put g c =
    on_ok_weaker c.put_others.result (λ put ps qs w v. put ps qs _ w v (c.in_ok-put_first.ensures.put ps qs w v)) c.put_others.ensures.put

pub returns-clause-cause : goal.returns-clause-cause
returns-clause-cause g c =
    IfErr-weaker c.put_others.result _ _ (λ e refused ps qs w v. refused ps qs _ w v (c.in_ok-put_first.ensures.put ps qs w v)) c.put_others.ensures.cause
