use Rattle.spa_rewrite.proofs.Appending.{front_written, one_changed}
use Rattle.spa_rewrite.proofs.rewriting.append_front.Goals as goal

pub append_pods-requires-clause-others : goal.append_pods-requires-clause-others
append_pods-requires-clause-others c =
    let a = c.in-Ok-accept_any.ensures.accepted in
    one_changed _ _ _ a.value a.begins c.split_at-in-Ok-accept_any.ensures.front

pub returns-in-Some-append_pods-clause-appended : goal.returns-in-Some-append_pods-clause-appended
returns-in-Some-append_pods-clause-appended c =
    let a = c.in-Ok-accept_any.ensures.accepted in
    front_written _ _ _ _ _ a.value a.begins c.split_at-in-Ok-accept_any.ensures.front c.in-Some-append_pods.ensures.appended
