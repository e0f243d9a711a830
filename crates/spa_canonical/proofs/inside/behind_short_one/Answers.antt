use Rattle.std.proofs.lemmas.Option.{IfSome_then}
use Rattle.std.proofs.Common.{arith}
use Rattle.spa_canonical.proofs.Looks.{behind_shorter, passes_pod}
use Rattle.spa_canonical.proofs.Words.{bytes_of}
use Rattle.spa_canonical.proofs.inside.behind_short_one.Goals as goal

pub returns-clause-passed : goal.returns-clause-passed
returns-clause-passed c =
    IfSome_then c.short_leaf.result c.short_leaf.ensures.there
    (λ rest t. passes_pod _ _ _ _ _ 0 (bytes_of _ c.type_inv.pods) c.in_ok-here.ensures.there t)

pub returns-clause-shorter : goal.returns-clause-shorter
returns-clause-shorter c =
    let less = behind_shorter _ _ _ c.in_ok-here.ensures.there in
    IfSome_then c.short_leaf.result c.short_leaf.ensures.shorter (λ rest s. omega (arith, less, s))
