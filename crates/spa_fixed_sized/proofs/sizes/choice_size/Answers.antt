use Rattle.spa_fixed_sized.proofs.sizes.choice_size.Goals as goal

pub returns-clause-some : goal.returns-clause-some
returns-clause-some g c = rw c.value_count.ensures c.body_len.ensures.some

pub returns-clause-none : goal.returns-clause-none
returns-clause-none g c = rw c.value_count.ensures c.body_len.ensures.none
