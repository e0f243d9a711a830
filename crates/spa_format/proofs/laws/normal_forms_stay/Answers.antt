use Rattle.spa_format.proofs.Normals as lemmas
use Rattle.spa_format.proofs.laws.normal_forms_stay.Goals as goal

pub returns : goal.returns
returns c = lemmas.normal_of-normal_of
