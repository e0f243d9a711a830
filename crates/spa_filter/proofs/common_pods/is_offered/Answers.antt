use Rattle.std.proofs.Common.{rules}
use Rattle.spa_filter.proofs.Apart.{no_choice_over, plain_common}
use Rattle.spa_filter.proofs.common_pods.is_offered.Goals as goal

pub returns-in_default-clause-cause : goal.returns-in_default-clause-cause
returns-in_default-clause-cause c = λ v w h i s k.
    let same = plain_common v w c.args.type_ c.args.body.now c.args.choice.now c.requires h i k in
    no_choice_over w c.args.choice.now c.args.type_ same (search rules) (search rules) (search rules) (search rules) (search rules) (search rules)
    (search rules) (search rules) (search rules) i
