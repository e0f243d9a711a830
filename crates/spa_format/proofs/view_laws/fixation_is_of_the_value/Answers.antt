use Rattle.spa_format.proofs.FixatedValues as lemmas
use Rattle.spa_format.proofs.FixatedObjects as objects
use Rattle.spa_format.proofs.view_laws.fixation_is_of_the_value.Goals as goal

pub returns-clause-properties : goal.returns-clause-properties
returns-clause-properties c = lemmas.properties_fixated

pub returns-clause-object : goal.returns-clause-object
returns-clause-object c = objects.object_fixated
