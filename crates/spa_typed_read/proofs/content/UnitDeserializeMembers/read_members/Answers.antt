use Rattle.spa_typed_read.proofs.Stepping.{further_same}
use Rattle.spa_typed_read.proofs.content.UnitDeserializeMembers.read_members.Goals as goal

pub returns-clause-same : goal.returns-clause-same
returns-clause-same c = further_same _
