use Rattle.spa_negotiate.proofs.Putting.{put_plain, put_offered}
use Rattle.spa_filter.proofs.CommonPods.{plain_typed}
use Rattle.spa_negotiate.proofs.settling.put_default.Goals as goal

pub returns-then-is_plain : goal.returns-then-is_plain
returns-then-is_plain c = λ e v w. put_plain v _ _ _ _ (plain_typed v (c.is_plain.ensures c.if-is_plain.true v w.its_pod)) w (c.put.ensures e)

pub returns-in-Some : goal.returns-in-Some
returns-in-Some c = λ e v w. put_offered v c.in-Some.offer _ _ _ (c.in-Some.ensures v w.its_pod) (c.put_value.ensures e)
