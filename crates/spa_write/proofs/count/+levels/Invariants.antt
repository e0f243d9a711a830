use Rattle.std.proofs.Common.{◌+◌, ◌*◌}
use Rattle.spa_write.proofs.count.+levels.Given as goal

-- the levels that are left
abbrev pub decreases-nests_within : goal.decreases-nests_within
decreases-nests_within l = 2 * l.levels

abbrev pub decreases-members_nest_within : goal.decreases-members_nest_within
decreases-members_nest_within l = 2 * l.levels + 1

abbrev pub decreases-properties_nest_within : goal.decreases-properties_nest_within
decreases-properties_nest_within l = 2 * l.levels + 1
