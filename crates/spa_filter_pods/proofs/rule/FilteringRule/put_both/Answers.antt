use Rattle.std.proofs.Common.{refl, subst}
use Rattle.spa_filter.specs.CommonPods.{IsPodRefusal}
use Rattle.spa_filter_pods.proofs.Puts.{left_of_both, put_of_both, refused_both}
use Rattle.spa_filter_pods.proofs.rule.FilteringRule.put_both.Goals as goal

pub returns-in-Ok-clause-put : goal.returns-in-Ok-clause-put
returns-in-Ok-clause-put c = λ v w i j.
    put_of_both v w _ _ _ _ _ _ _ refl c.put_key.ensures.words.1 (c.put_key.ensures.items c.if-not-put_key.false) refl
    (c.in-Ok.ensures.appended v w i j)

pub returns-in-TooLarge-clause-put : goal.returns-in-TooLarge-clause-put
returns-in-TooLarge-clause-put c = λ v w i j.
    left_of_both v w _ _ _ _ _ refl
    (subst (IsPodRefusal c.args.first.now.key v w) c.in-TooLarge.is (c.in-Err.ensures.cause v w i j))

pub returns-in_default-clause-cause : goal.returns-in_default-clause-cause
returns-in_default-clause-cause c = λ v w i j.
    refused_both v w c.args.first.now.flags c.args.other.now.flags c.args.first.now.key c.in-Err.error c.in_default.not-TooLarge (c.in-Err.ensures.cause v w i j)
