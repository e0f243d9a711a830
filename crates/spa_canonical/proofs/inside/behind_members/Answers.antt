use Rattle.std.proofs.Common.{refl, subst}
use Rattle.std.specs.Prelude.{false, true}
use Rattle.spa_canonical.specs.Look.{Passes}
use Rattle.spa_canonical.proofs.inside.behind_members.Goals as goal

pub returns-clause-passed : goal.returns-clause-passed
returns-clause-passed c =
    let p = c.behind_each.ensures in
    subst (Passes false true c.args.pods.now c.behind_each.result.0.now) (p.none refl) p.passed
