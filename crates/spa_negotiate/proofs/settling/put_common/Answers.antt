use Rattle.spa_negotiate.proofs.Putting.{put_shared}
use Rattle.spa_filter.proofs.CommonPods.{plain_typed}
use Rattle.spa_negotiate.proofs.settling.put_common.Goals as goal

pub put_same-requires : goal.put_same-requires
put_same-requires c = λ v w first second.
    (plain_typed v (c.is_plain.ensures c.if-is_plain.true v first), plain_typed w (c.is_plain-then-is_plain.ensures c.if-is_plain-2.true w second))

pub returns-clause-put : goal.returns-clause-put
returns-clause-put c = λ v w first second.
    let o = c.in-Some.ensures v first.its_pod in
    let p = c.in-Some-offer_view.ensures w second.its_pod in
    put_shared v w c.in-Some.a _ _ _ _ o (c.in-Some-first_common.ensures v w o p) (c.put_value.ensures c.if-not-put_value.false)
