use Rattle.std.proofs.lemmas.Option.{IfSome_then}
use Rattle.spa_canonical.proofs.Looks.{asked_none, passes_pod}
use Rattle.spa_canonical.proofs.Words.{bytes_of}
use Rattle.spa_canonical.proofs.inside.behind_one.Goals as goal

pub returns-clause-passed : goal.returns-clause-passed
returns-clause-passed c =
    IfSome_then c.long_leaf.result c.long_leaf.ensures.there
    (λ one t. passes_pod _ _ _ _ _ _ (bytes_of _ c.type_inv.pods) c.in_ok-here.ensures.there t)

pub returns-clause-none : goal.returns-clause-none
returns-clause-none c = IfSome_then c.long_leaf.result c.long_leaf.ensures.there (λ one t e. asked_none _ _ _ _ e t)
