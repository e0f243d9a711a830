use Rattle.std.proofs.Common.{◌<◌, ◌≤◌, ◌^◌, vec_len}
use Rattle.spa_recordings.specs.Blocks.{ahead}
use Rattle.spa_recordings.specs.Streaming.{MayStop}
use Rattle.spa_recordings.proofs.Streamed.{StreamedSoFar}
use Rattle.spa_recordings.proofs.streaming.stream.Given as goal

abbrev pub invariant-loop : goal.invariant-loop
invariant-loop g l =
    (l.blocks.held ≤ vec_len l.blocks.buffer) × (l.before.place < 2 ^ 64)
    × StreamedSoFar l.reading (MayStop l.reading (g.B.BlockWriter.refuses l.writer)) (g.B.BlockWriter.makes l.writer) (g.R.Read.remaining l.fn.input)
    (g.R.Read.remaining l.input) (ahead l.blocks) l.before l.made (g.W.Write.contents l.fn.output) (g.W.Write.contents l.output)
