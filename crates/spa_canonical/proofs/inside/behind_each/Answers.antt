use Rattle.std.proofs.Common.{arith, refl, subst}
use Rattle.spa_canonical.specs.Look.{Passes}
use Rattle.spa_canonical.proofs.Looks.{goes_on}
use Rattle.spa_canonical.proofs.inside.behind_each.Goals as goal

pub loop-rest-init : goal.loop-rest-init
loop-rest-init c = (c.behind_short-left.ensures, λ _. refl)

pub loop-rest-preserved : goal.loop-rest-preserved
loop-rest-preserved c =
    let i = c.loop-rest.invariant in
    let one = c.in-Some.ensures in (
      subst (Passes c.args.keyed c.args.canonical c.args.pods.now _) (omega arith)
          (goes_on _ _ _ _ _ _ _ _ _ _ 0 (goes_on _ _ _ _ _ _ _ _ _ _ _ i.0 one.passed) c.behind_short-left-in-Some.ensures),
      λ t. (let e = i.1 t in let f = one.none t in omega arith),
    )
