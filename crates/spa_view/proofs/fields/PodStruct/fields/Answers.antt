use Rattle.std.proofs.Common.{arith, sym, subst}
use Rattle.spa_format.specs.Walk.{ArePodsOf, walk}
use Rattle.spa_format.proofs.WalkLemmas.{length-walk_behind}
use Rattle.spa_format.proofs.WalkedMembers.{struct_walked}
use Rattle.spa_view.proofs.fields.PodStruct.fields.Goals as goal

pub returns-clause-accepted : goal.returns-clause-accepted
returns-clause-accepted c vs h =
    subst (λ z. ArePodsOf vs (walk z)) (sym c.body.ensures.body) (struct_walked vs c.args.self.now.pod.bytes.now h)

pub returns-clause-few : goal.returns-clause-few
returns-clause-few c =
    let f = length-walk_behind 0 c.body.result.now in let l = c.body.ensures.length in omega arith

pub returns-clause-bound : goal.returns-clause-bound
returns-clause-bound c =
    let f = length-walk_behind 0 c.body.result.now in let l = c.body.ensures.small in omega arith
