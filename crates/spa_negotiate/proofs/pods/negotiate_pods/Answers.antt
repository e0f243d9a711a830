use Rattle.spa_object_view.proofs.Rules.{both}
use Rattle.spa_negotiate.proofs.Settlements.{can_meet}
use Rattle.spa_negotiate.proofs.pods.negotiate_pods.Goals as goal

pub returns-in-Ok-clause-accepted : goal.returns-in-Ok-clause-accepted
returns-in-Ok-clause-accepted c = both (λ v w m. can_meet v w m.met m.meet) c.in-Ok.ensures.met

pub returns-in-Ok-clause-value : goal.returns-in-Ok-clause-value
returns-in-Ok-clause-value c = c.in-Ok.ensures.met

pub returns-in-Ok-clause-fixated : goal.returns-in-Ok-clause-fixated
returns-in-Ok-clause-fixated c = c.meetings_need_no_fixation.ensures _ _ _ c.in-Ok.ensures.met

pub returns-in-Err-clause-refused : goal.returns-in-Err-clause-refused
returns-in-Err-clause-refused c = c.refused_fronts_cannot_meet.ensures _ _ _ (c.refusal.ensures _ _ c.in-Err.ensures.cause)

pub returns-in-Err-clause-cause : goal.returns-in-Err-clause-cause
returns-in-Err-clause-cause c = c.refusal.ensures _ _ c.in-Err.ensures.cause
