use Rattle.spa_format.proofs.Short as lemmas
use Rattle.spa_format.proofs.laws.encodings_are_shortest.Goals as goal

pub returns : goal.returns
returns c = lemmas.shortest
