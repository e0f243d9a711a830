use Rattle.std.proofs.Common.{drop}
use Rattle.pod_commands.proofs.Worked.{WorkedSoFar}
use Rattle.pod_commands.proofs.making.make_what_is_read.Given as goal

abbrev pub invariant-loop-name : goal.invariant-loop-name
invariant-loop-name g l =
    WorkedSoFar l.manner.reading l.manner.refused l.making (g.R.Read.remaining l.fn.inputs.input.now) (g.S.Files.holds l.files) l.names (g.R.Read.remaining l.input)
    (drop l.name-index l.names) l.out.items l.refused.items
