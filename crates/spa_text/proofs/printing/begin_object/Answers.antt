use Rattle.spa_value.proofs.ViewLaws.{view-fields}
use Rattle.spa_text.proofs.Continuing.{object_left}
use Rattle.spa_text.proofs.Exactly.{object_opened_left}
use Rattle.spa_text.proofs.printing.begin_object.Goals as goal

pub returns-clause-written : goal.returns-clause-written
returns-clause-written c = λ e. (
  object_left e _ _ c.keys_of.result c.as_slice.result.now _ _ _ _ c.keys_of.ensures c.as_slice.ensures.value (view-fields c.args.object.now) (c.in_ok-open_object.ensures e),
  object_opened_left e _ _ c.keys_of.result c.as_slice.result.now _ _ _ _ c.keys_of.ensures c.as_slice.ensures.value (view-fields c.args.object.now) (c.in_ok-open_object.ensures e),
)
