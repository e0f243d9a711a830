use Rattle.spa_typed_read.proofs.Visits.{member_parts, member_whole, property_parts, property_whole}
use Rattle.spa_typed_read.proofs.laws.members_are_fronts.Goals as goal

pub returns : goal.returns
returns c = record { parts = member_parts; whole = member_whole; property_parts = property_parts; property_whole = property_whole }
