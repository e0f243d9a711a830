use Rattle.std.proofs.Common.{refl}
use Rattle.spa_filter_pods.proofs.Puts.{put_behind}
use Rattle.spa_filter_pods.proofs.rule.FilteringRule.put_alone.Goals as goal

pub returns-clause-first : goal.returns-clause-first
returns-clause-first c = λ v.
    put_behind _ _ _ _ v _ _ _ _ (c.if-first-eq-MANDATORY.false, (refl, refl)) c.put_key.ensures.words.1 (c.put_key.ensures.items c.if-not-put_key.false)
    (c.put_pod.ensures c.if-not-put_pod.false) refl

pub returns-clause-second : goal.returns-clause-second
returns-clause-second c = λ v.
    put_behind _ _ _ _ v _ _ _ _ (c.if-first-eq-MANDATORY.false, (refl, refl)) c.put_key.ensures.words.1 (c.put_key.ensures.items c.if-not-put_key.false)
    (c.put_pod.ensures c.if-not-put_pod.false) refl
