use Rattle.std.proofs.Common.{◌<◌, ◌≤◌, ◌^◌, vec_len}
use Rattle.spa_recordings.specs.Blocks.{ahead}
use Rattle.spa_recordings.proofs.Passed.{PassedSoFar}
use Rattle.spa_recordings.proofs.passing.stream_through.Given as goal

abbrev pub invariant-loop : goal.invariant-loop
invariant-loop g l =
    (l.blocks.held ≤ vec_len l.blocks.buffer) × (l.place < 2 ^ 64)
    × PassedSoFar _ (g.B.BlockWorker.works) l.fn.worker l.worker (g.R.Read.remaining l.fn.input) (g.R.Read.remaining l.input) (ahead l.blocks) l.count l.place
    (g.W.Write.contents l.fn.output) (g.W.Write.contents l.output)
