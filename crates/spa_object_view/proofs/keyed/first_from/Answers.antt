use Rattle.spa_object_view.proofs.KeyOrders.{first_after}
use Rattle.spa_object_view.proofs.keyed.first_from.Goals as goal

pub returns-in-Err : goal.returns-in-Err
returns-in-Err c = first_after _ _ _ c.in-Err.ensures.position c.requires
