use Rattle.std.proofs.Common.{◌≤◌, vec_len}
use Rattle.spa_recordings.specs.Blocks.{ReadsOn, ahead}
use Rattle.spa_recordings.proofs.blocks.Blocks.next.Given as goal

abbrev pub invariant-loop : goal.invariant-loop
invariant-loop g l =
    (l.self.held ≤ vec_len l.self.buffer) × ReadsOn (g.R.Read.remaining l.fn.input) (g.R.Read.remaining l.input) (ahead l.fn.self) (ahead l.self)
