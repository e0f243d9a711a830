use Rattle.spa_format.proofs.FixatedValues as lemmas
use Rattle.spa_format.proofs.view_laws.settled_properties_are_settled.Goals as goal

pub returns : goal.returns
returns c = lemmas.all_settled-of
