use Rattle.spa_object_view.proofs.Rules.{both}
use Rattle.spa_filter_pods.proofs.Fronts.{filtered, no_filter}
use Rattle.spa_filter_pods.proofs.pods.filter_pods.Goals as goal

pub returns-in-Ok-clause-accepted : goal.returns-in-Ok-clause-accepted
returns-in-Ok-clause-accepted c = both (λ v w m. (filtered v w m.met m.meet).0) c.in-Ok.ensures.met

pub returns-in-Ok-clause-value : goal.returns-in-Ok-clause-value
returns-in-Ok-clause-value c =
    both (λ v w m. record { met = m.met; filter = (filtered v w m.met m.meet).1; encoding = m.encoding; pod = m.pod }) c.in-Ok.ensures.met

pub returns-in-Err-clause-refused : goal.returns-in-Err-clause-refused
returns-in-Err-clause-refused c = no_filter c.pods_have_one_value.ensures _ _ _ (c.refusal.ensures _ _ c.in-Err.ensures.cause)

pub returns-in-Err-clause-cause : goal.returns-in-Err-clause-cause
returns-in-Err-clause-cause c = c.refusal.ensures _ _ c.in-Err.ensures.cause
