use Rattle.std.proofs.Common.{sym, ◌∙◌, true≢false}
use Rattle.spa_negotiate.proofs.Putting.{plain_apart, put_same}
use Rattle.spa_negotiate.proofs.settling.put_same.Goals as goal

pub returns-then-not-are_same-clause-cause : goal.returns-then-not-are_same-clause-cause
returns-then-not-are_same-clause-cause c = λ v w first second.
    let plain = c.requires v w first.its_pod second.its_pod in
    plain_apart v w _ _ _ plain.0 plain.1 (λ e. true≢false (sym (c.are_same.ensures.1 e) ∙ c.if-not-are_same.true)) first second

pub returns-clause-put : goal.returns-clause-put
returns-clause-put c = λ v w first second.
    let plain = c.requires v w first.its_pod second.its_pod in
    put_same v w _ _ _ _ _ plain.0 plain.1 (c.are_same.ensures.0 c.if-not-are_same.false) first second (c.put.ensures c.if-not-put.false)
