use Rattle.spa_format.proofs.Back as lemmas
use Rattle.spa_format.proofs.laws.encodings_read_back.Goals as goal

pub returns-clause-there : goal.returns-clause-there
returns-clause-there c = λ v r h w. (lemmas.encoding_begins v r h w).0

pub returns-clause-value : goal.returns-clause-value
returns-clause-value c = λ v r h w. (lemmas.encoding_begins v r h w).1
