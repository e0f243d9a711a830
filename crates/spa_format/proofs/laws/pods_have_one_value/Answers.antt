use Rattle.spa_format.proofs.Unique as lemmas
use Rattle.spa_format.proofs.laws.pods_have_one_value.Goals as goal

pub returns : goal.returns
returns c = lemmas.one_value
