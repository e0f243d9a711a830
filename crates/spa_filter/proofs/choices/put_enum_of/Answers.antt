use Rattle.std.proofs.Common.{map, refl}
use Rattle.spa_format.specs.Tree.{choice, enum_choice}
use Rattle.spa_filter.proofs.CommonPods.{appended_choice}
use Rattle.spa_filter.proofs.choices.put_enum_of.Goals as goal

pub returns-in-Ok-clause-appended : goal.returns-in-Ok-clause-appended
returns-in-Ok-clause-appended g c =
    let pod = g.T.CanonicalFixedSizedPod in
    let put = c.in-Ok.ensures in
    appended_choice (choice enum_choice 0 pod.kind (pod.fixed c.args.default.now) (map pod.fixed c.args.alternatives.now)) _ _ refl refl put.typed put.fits put.ok
