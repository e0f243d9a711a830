use Rattle.spa_object_view.proofs.ObjectPods.{begins_other, refused_front, too_deep}
use Rattle.spa_object_view.proofs.front.no_object.Goals as goal

pub returns-in-Ok : goal.returns-in-Ok
returns-in-Ok c =
    let pod = c.in-Ok.ensures.accepted.shorter in
    begins_other c.args.input.now pod.value c.requires pod.begins.begins

pub returns-in-Fault : goal.returns-in-Fault
returns-in-Fault c = refused_front _ _ _ _ _ c.in-Fault.is c.in-Err.ensures.rejected

pub deep_no_object-requires-clause-deep : goal.deep_no_object-requires-clause-deep
deep_no_object-requires-clause-deep c = too_deep _ _ c.in-TooDeep.is c.in-Err.ensures.rejected
