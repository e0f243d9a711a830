use Rattle.spa_format.proofs.Origin as lemmas
use Rattle.spa_format.proofs.laws.same_rewriting_same_value.Goals as goal

pub returns : goal.returns
returns c = λ b d v w f g h k. (lemmas.same_rewriting b d v w f g h k, lemmas.same_value v w)
