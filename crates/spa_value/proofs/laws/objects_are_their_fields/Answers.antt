use Rattle.spa_value.proofs.ViewLaws.{view-fields, view-object}
use Rattle.spa_value.proofs.laws.objects_are_their_fields.Goals as goal

pub returns : goal.returns
returns c = record { fields = view-fields; made = view-object }
