use Rattle.std.proofs.Common.{drop}
use Rattle.pod_commands.proofs.Streamed.{StreamedSoFar}
use Rattle.pod_commands.proofs.streaming.stream_all.Given as goal

abbrev pub invariant-loop-name : goal.invariant-loop-name
invariant-loop-name g l =
    StreamedSoFar l.reading l.streaming (g.R.Read.remaining l.fn.inputs.input.now) (g.S.Files.holds l.files) l.names
    (g.R.Read.remaining l.input) (drop l.name-index l.names) l.made (g.W.Write.contents l.fn.output) (g.W.Write.contents l.output)
