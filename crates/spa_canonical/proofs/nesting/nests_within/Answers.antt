use Rattle.spa_canonical.proofs.Deeper.{deep_input, input_deep, its_front}
use Rattle.spa_canonical.proofs.Depths.{begun_deep, decided, deep_begun}
use Rattle.spa_canonical.proofs.nesting.nests_within.Goals as goal

pub returns-in-Some-clause-exactly : goal.returns-in-Some-clause-exactly
returns-in-Some-clause-exactly c = λ v b.
    let o = c.in-Some.ensures.there in
    decided _ _ _ (λ e. deep_begun _ _ v (deep_input _ _ _ _ _ o (c.body_nests_within.ensures.deeper e)) b)
    (λ l. c.body_nests_within.ensures.within (input_deep _ _ _ _ _ o (begun_deep _ _ v b l)))

pub returns-in-Some-clause-deeper : goal.returns-in-Some-clause-deeper
returns-in-Some-clause-deeper c = λ e. deep_input _ _ _ _ _ c.in-Some.ensures.there (c.body_nests_within.ensures.deeper e)

pub returns-in-Some-clause-within : goal.returns-in-Some-clause-within
returns-in-Some-clause-within c = λ d. c.body_nests_within.ensures.within (input_deep _ _ _ _ _ c.in-Some.ensures.there d)

pub returns-in-None-clause-within : goal.returns-in-None-clause-within
returns-in-None-clause-within c = λ d. absurd (c.in-None.ensures.short (its_front _ _ d))
