use Rattle.std.proofs.Common.{◌≡◌, ◌+◌, drop, false}
use Rattle.pod_commands.specs.Colours.{quoted_len}
use Rattle.pod_commands.proofs.colours.quoted_len.Given as goal

abbrev pub invariant-loop-at : goal.invariant-loop-at
invariant-loop-at l = quoted_len false l.behind ≡ l.at + quoted_len l.is_escaped (drop l.at l.behind)
