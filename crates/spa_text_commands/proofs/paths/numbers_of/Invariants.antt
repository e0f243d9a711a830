use Rattle.spa_text_commands.proofs.Stepping.{CountedSoFar}
use Rattle.spa_text_commands.proofs.paths.numbers_of.Given as goal

abbrev pub invariant-loop-number : goal.invariant-loop-number
invariant-loop-number l = CountedSoFar l.events l.counts.items l.numbers.items l.number
