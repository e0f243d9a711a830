use Rattle.std.proofs.Common.{drop}
use Rattle.pod_commands.proofs.Passed.{PassedSoFar}
use Rattle.pod_commands.proofs.passing.pass_all.Given as goal

abbrev pub invariant-loop-name : goal.invariant-loop-name
invariant-loop-name g l =
    PassedSoFar l.manner.reading l.manner.refused l.making (g.R.Read.remaining l.fn.inputs.input.now) (g.S.Files.holds l.files) l.names
    (g.R.Read.remaining l.input) (drop l.name-index l.names) l.said.items (g.W.Write.contents l.fn.output) (g.W.Write.contents l.output)
