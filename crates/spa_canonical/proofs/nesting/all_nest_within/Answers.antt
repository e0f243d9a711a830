use Rattle.spa_canonical.proofs.Depths.{decided, members_deep}
use Rattle.spa_canonical.proofs.nesting.all_nest_within.Goals as goal

pub returns-clause-exactly : goal.returns-clause-exactly
returns-clause-exactly c = λ vs m.
    let deep = members_deep _ vs _ m in
    decided _ _ _ (λ e. deep.0 (c.pods_nest_within.ensures.deeper e)) (λ l. c.pods_nest_within.ensures.within (deep.1 l))
