use Rattle.spa_names.proofs.Coming.{NumbersAreNamed-all}
use Rattle.spa_names.proofs.laws.numbers_are_named.Goals as goal

pub returns : goal.returns
returns c = NumbersAreNamed-all
