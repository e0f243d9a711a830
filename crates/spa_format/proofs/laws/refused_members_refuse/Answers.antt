use Rattle.spa_format.proofs.Refused as lemmas
use Rattle.spa_format.proofs.laws.refused_members_refuse.Goals as goal

pub returns : goal.returns
returns c = lemmas.refused_behind_members
