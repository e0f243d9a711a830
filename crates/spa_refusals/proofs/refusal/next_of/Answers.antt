use Rattle.std.proofs.Common.{inl}
use Rattle.spa_refusals.proofs.Unreading.{next_counted}
use Rattle.spa_refusals.proofs.refusal.next_of.Goals as goal

pub returns-in-Some : goal.returns-in-Some
returns-in-Some c =
    next_counted c.checked_add.result c.args.place c.in-Some.bytes c.args.pod.now c.checked_add.ensures c.in-Some.ensures.within c.in-Some.ensures.next

pub returns-in-None : goal.returns-in-None
returns-in-None c = inl c.in-None.ensures.none
