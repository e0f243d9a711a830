use Rattle.std.proofs.Common.{ℕ, List, length}
use Rattle.spa_format.specs.Tree.{Properties}
use Rattle.spa_object_view.specs.Written.{AreWritten}
use Rattle.spa_object_view.proofs.Sides.{IsSideLeft}
use Rattle.spa_object_view.specs.Answers.{AreMetBehind}
use Rattle.spa_object_view.proofs.meeting.put_others.Given as goal

abbrev pub invariant-loop-first : goal.invariant-loop-first
invariant-loop-first g l =
    (ps qs : Properties) (head : List ℕ) → AreWritten ps l.ours.properties.now → AreWritten qs l.theirs.properties.now → AreMetBehind g.R.Rule.holds ps qs ps head l.initial.out →
    IsSideLeft ps qs l.theirs.properties.now l.left l.bound (λ these. AreMetBehind g.R.Rule.holds ps qs these head l.out)

abbrev pub decreases-loop-first : goal.decreases-loop-first
decreases-loop-first g l = length l.left
