use Rattle.std.proofs.Common.{refl, sym, ◌∙◌, true≢false}
use Rattle.spa_filter.proofs.CommonPods.{appended_same, plain_apart, plain_typed}
use Rattle.spa_filter_pods.proofs.common_pods.put_met.Goals as goal

pub returns-clause-appended : goal.returns-clause-appended
returns-clause-appended c = λ v w i j.
    appended_same v w _ _ _ _ (plain_typed v (c.is_plain.ensures c.if-not-is_plain.false v i.its_pod))
    (plain_typed w (c.is_plain-else-not-is_plain.ensures c.if-not-is_plain-2.false w j.its_pod)) i j (c.are_same.ensures.0 c.if-not-are_same.false)
    (c.put_pod.ensures c.if-not-put_pod.false)

pub returns-then-not-are_same-clause-cause : goal.returns-then-not-are_same-clause-cause
returns-then-not-are_same-clause-cause c = λ v w i j.
    let apart =
    plain_apart v w _ _ (plain_typed v (c.is_plain.ensures c.if-not-is_plain.false v i.its_pod))
    (plain_typed w (c.is_plain-else-not-is_plain.ensures c.if-not-is_plain-2.false w j.its_pod)) i j
    (λ e. true≢false (sym (c.are_same.ensures.1 e) ∙ c.if-not-are_same.true)) in
    (refl, apart.0, apart.1)
