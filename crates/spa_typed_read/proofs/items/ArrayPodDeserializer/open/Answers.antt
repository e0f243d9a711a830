use Rattle.spa_typed_read.proofs.Fronts.{wrong_array_refused}
use Rattle.spa_typed_read.proofs.items.ArrayPodDeserializer.open.Goals as goal

pub returns-in_default-clause-refused : goal.returns-in_default-clause-refused
returns-in_default-clause-refused g c =
    rw (← c.deserializer.view_is)
    (wrong_array_refused _ _ _ _ _ c.in_ok-front.ensures.there c.in_default.ensures.none)
