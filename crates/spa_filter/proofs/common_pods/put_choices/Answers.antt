use Rattle.std.proofs.Common.{rules}
use Rattle.spa_filter.proofs.Apart.{no_choice_over}
use Rattle.spa_filter.proofs.common_pods.put_choices.Goals as goal

pub returns-in_default-clause-cause : goal.returns-in_default-clause-cause
returns-in_default-clause-cause c = λ v w h i s k.
    no_choice_over v c.args.a.now c.u32_at.result c.u32_at.ensures (search rules) (search rules) (search rules) (search rules) (search rules)
    (search rules) (search rules) (search rules) (search rules) h
