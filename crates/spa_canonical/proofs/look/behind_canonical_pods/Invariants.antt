use Rattle.std.proofs.Common.{List, ℕ, length, ◌≤◌}
use Rattle.spa_format.specs.Typed.{IsBytes}
use Rattle.spa_canonical.specs.Canonical.{IsStretch}
use Rattle.spa_canonical.specs.Depth.{AreShallow, levels_looked_into}
use Rattle.spa_canonical.proofs.look.behind_canonical_pods.Given as goal

abbrev pub invariant-loop-rest : goal.invariant-loop-rest
invariant-loop-rest l =
    (length l.left ≤ length l.pods) × ((r : List ℕ) → IsStretch l.left r → IsStretch l.pods r)
    × IsBytes l.left × (AreShallow levels_looked_into l.pods → AreShallow levels_looked_into l.left)

abbrev pub decreases-loop-rest : goal.decreases-loop-rest
decreases-loop-rest l = length l.left
