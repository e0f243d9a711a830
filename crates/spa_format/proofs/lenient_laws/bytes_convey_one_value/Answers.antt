use Rattle.spa_format.proofs.Conveyed as lemmas
use Rattle.spa_format.proofs.lenient_laws.bytes_convey_one_value.Goals as goal

pub returns : goal.returns
returns c = lemmas.one_value
