use Rattle.spa_fixed_sized.specs.Choices.{choice_tree}
use Rattle.spa_filter.proofs.CommonPods.{appended_choice}
use Rattle.spa_value.proofs.TypeLaws.{type_of-choice_enum_tree}
use Rattle.spa_filter.proofs.choices.put_choice_of.Goals as goal

pub returns-in-Ok-clause-appended : goal.returns-in-Ok-clause-appended
returns-in-Ok-clause-appended g c = λ z.
    let pod = g.T.CanonicalFixedSizedPod in
    let choice = c.args.choice.now in
    let put = c.in-Ok.ensures in
    appended_choice (choice_tree pod.kind pod.fixed choice) _ _ (type_of-choice_enum_tree pod.kind pod.fixed choice.0.0 choice.1) z put.typed put.fits put.ok
