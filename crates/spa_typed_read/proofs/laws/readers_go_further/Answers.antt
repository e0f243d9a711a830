use Rattle.spa_typed_read.proofs.Stepping.{further_in_same, further_in_trans, further_same, further_trans}
use Rattle.spa_typed_read.proofs.laws.readers_go_further.Goals as goal

pub returns : goal.returns
returns c = record { no_member = further_same; members = further_trans; no_property = further_in_same; properties = further_in_trans }
