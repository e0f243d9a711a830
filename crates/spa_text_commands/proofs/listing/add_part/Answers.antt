use Rattle.spa_text_commands.proofs.Values.{counted, few_counted, one_part}
use Rattle.spa_text_commands.proofs.listing.add_part.Goals as goal

pub returns-clause-added : goal.returns-clause-added
returns-clause-added c =
    one_part c.args.form _ _ _ c.count_of-refused.result
    (counted c.in_ok-refusal.refusal c.count_of-refused.result _ c.count_of-refused.ensures c.in_ok-refusal.ensures.accepted c.in_ok-refusal.ensures.refused)
    c.in_ok-print_part.ensures

pub returns-clause-few : goal.returns-clause-few
returns-clause-few c = few_counted c.in_ok-refusal.refusal c.count_of-refused.result c.count_of-refused.ensures
