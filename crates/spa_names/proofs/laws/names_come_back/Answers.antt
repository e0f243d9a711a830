use Rattle.spa_names.proofs.Coming.{NamesComeBack-all}
use Rattle.spa_names.proofs.laws.names_come_back.Goals as goal

pub returns : goal.returns
returns c = NamesComeBack-all
