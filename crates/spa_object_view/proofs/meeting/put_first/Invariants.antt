use Rattle.std.proofs.Common.{length}
use Rattle.spa_format.specs.Tree.{Properties, no_properties}
use Rattle.spa_object_view.specs.Written.{AreWritten}
use Rattle.spa_object_view.proofs.Sides.{IsSideLeft}
use Rattle.spa_object_view.specs.Answers.{AreMetBehind}
use Rattle.spa_object_view.proofs.meeting.put_first.Given as goal

abbrev pub invariant-loop-first : goal.invariant-loop-first
invariant-loop-first g l =
    (ps qs : Properties) → AreWritten ps l.ours.properties.now → AreWritten qs l.theirs.properties.now →
    IsSideLeft no_properties ps l.ours.properties.now l.left l.bound (λ these. AreMetBehind g.R.Rule.holds ps qs these l.initial.out.bytes.items l.out)

abbrev pub decreases-loop-first : goal.decreases-loop-first
decreases-loop-first g l = length l.left
