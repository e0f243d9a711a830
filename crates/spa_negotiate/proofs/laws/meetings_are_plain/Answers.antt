use Rattle.spa_negotiate.proofs.MetValues.{NoNul-met, IsNormal-met, are_settled-object}
use Rattle.spa_negotiate.proofs.laws.meetings_are_plain.Goals as goal

pub returns : goal.returns
returns c = record { no_nul = NoNul-met; normal = IsNormal-met; settled = are_settled-object }
