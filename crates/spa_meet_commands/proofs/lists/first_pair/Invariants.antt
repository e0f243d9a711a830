use Rattle.std.proofs.Common.{drop}
use Rattle.spa_meet_commands.proofs.Seeking.{Paired}
use Rattle.spa_meet_commands.proofs.lists.first_pair.Given as goal

abbrev pub invariant-loop-object : goal.invariant-loop-object
invariant-loop-object g l = Paired l.work l.theirs l.ours (drop l.object-index l.ours)
