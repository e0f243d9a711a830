use Rattle.std.proofs.Common.{arith, drop, sym, ap, ◌∙◌, subst}
use Rattle.spa_format.specs.Walk.{ArePropertiesOf, property_walk}
use Rattle.spa_format.proofs.WalkLemmas.{length-walk_behind}
use Rattle.spa_format.proofs.WalkedMembers.{object_walked}
use Rattle.spa_view.proofs.props.PodObject.props.Goals as goal

pub returns-clause-accepted : goal.returns-clause-accepted
returns-clause-accepted c t i ps h =
    subst (λ z. ArePropertiesOf ps (property_walk z)) (sym (c.split_at.ensures.back ∙ ap (drop 8) c.body.ensures.body))
    (object_walked t i ps c.args.self.now.pod.bytes.now h)

pub returns-clause-few : goal.returns-clause-few
returns-clause-few c =
    let f = length-walk_behind 8 c.split_at.result.1.now in
    let l = c.body.ensures.length in
    let s = c.split_at.ensures.back_len in
    omega arith

pub returns-clause-bound : goal.returns-clause-bound
returns-clause-bound c =
    let f = length-walk_behind 8 c.split_at.result.1.now in
    let l = c.body.ensures.small in
    let s = c.split_at.ensures.back_len in
    omega arith
