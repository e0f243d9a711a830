use Rattle.spa_object_view.proofs.Rules.{both}
use Rattle.spa_filter_pods.proofs.Fronts.{filtered, no_filter}
use Rattle.spa_filter_pods.proofs.pods.filter_viewed.Goals as goal

pub returns-in-Ok-clause-accepted : goal.returns-in-Ok-clause-accepted
returns-in-Ok-clause-accepted c = λ a b h k. both (λ v w m. (filtered v w m.met m.meet).0) (c.in-Ok.ensures.met a b h k)

pub returns-in-Ok-clause-value : goal.returns-in-Ok-clause-value
returns-in-Ok-clause-value c = λ a b h k.
    both (λ v w m. record { met = m.met; filter = (filtered v w m.met m.meet).1; encoding = m.encoding; pod = m.pod }) (c.in-Ok.ensures.met a b h k)

pub returns-in-Err-clause-refused : goal.returns-in-Err-clause-refused
returns-in-Err-clause-refused c = λ a b h k. no_filter c.pods_have_one_value.ensures a b _ (c.refusal.ensures a b (c.in-Err.ensures.cause a b h k))

pub returns-in-Err-clause-cause : goal.returns-in-Err-clause-cause
returns-in-Err-clause-cause c = λ a b h k. c.refusal.ensures a b (c.in-Err.ensures.cause a b h k)
