use Rattle.std.proofs.Common.{◌≡◌, ◌+◌, drop}
use Rattle.pod_commands.specs.Colours.{word_len}
use Rattle.pod_commands.proofs.colours.word_len.Given as goal

abbrev pub invariant-loop-at : goal.invariant-loop-at
invariant-loop-at l = word_len l.first l.behind ≡ l.at + word_len l.first (drop l.at l.behind)
