use Rattle.std.proofs.Common.{◌+◌, ◌*◌, length}
use Rattle.std.specs.Prelude.{◌-◌, ◌≤◌, ◌⊎◌, ◌↔◌, IsSomeAnd}
use Rattle.spa_canonical.specs.Depth.{NestsDeeperInside}
use Rattle.spa_canonical.proofs.nesting.+nesting.Given as goal

abbrev pub decreases-pods_nest_within : goal.decreases-pods_nest_within
decreases-pods_nest_within l = 3 * l.levels + 3

abbrev pub decreases-all_but_longest : goal.decreases-all_but_longest
decreases-all_but_longest l = 3 * l.levels + 2

abbrev pub decreases-longer_of : goal.decreases-longer_of
decreases-longer_of l = 3 * l.levels + 1

-- the pods around that are left to look into
abbrev pub invariant-pods_nest_within-loop-left : goal.invariant-pods_nest_within-loop-left
invariant-pods_nest_within-loop-left l = record {
  within : l.left ≤ l.levels;
  same : NestsDeeperInside l.left l.around.keyed l.around.pods.now ↔ NestsDeeperInside l.levels l.keyed l.pods;
}

abbrev pub decreases-pods_nest_within-loop-left : goal.decreases-pods_nest_within-loop-left
decreases-pods_nest_within-loop-left l = l.left

-- the longest container so far, and the pods behind
abbrev pub invariant-all_but_longest-loop-front : goal.invariant-all_but_longest-loop-front
invariant-all_but_longest-loop-front l =
    (NestsDeeperInside l.levels l.keyed l.left ⊎ IsSomeAnd l.longest (λ i. NestsDeeperInside (l.levels - 1) i.keyed i.pods.now))
    ↔ NestsDeeperInside l.levels l.keyed l.pods

abbrev pub decreases-all_but_longest-loop-front : goal.decreases-all_but_longest-loop-front
decreases-all_but_longest-loop-front l = length l.left
