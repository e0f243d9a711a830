use Rattle.std.proofs.Common.{drop}
use Rattle.spa_meet_commands.proofs.Seeking.{Sought}
use Rattle.spa_meet_commands.proofs.lists.first_with.Given as goal

abbrev pub invariant-loop-object : goal.invariant-loop-object
invariant-loop-object l = Sought l.work l.ours l.theirs (drop l.object-index l.theirs)
