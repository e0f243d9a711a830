use Rattle.spa_builder.proofs.Making as lemmas
use Rattle.spa_builder.proofs.laws.objects_of_numbers_can_be_written.Goals as goal

pub returns : goal.returns
returns c t i ps h l = lemmas.fixed_writable t i ps h l
