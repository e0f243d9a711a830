use Rattle.std.proofs.lemmas.Bool.{eqb-true}
use Rattle.spa_canonical.proofs.body.are_whole.Goals as goal
use Rattle.spa_fixed_sized.proofs.Arrays.{whole_of}

pub returns-clause-whole : goal.returns-clause-whole
returns-clause-whole c = λ e. whole_of _ _ (eqb-true _ _ e)
