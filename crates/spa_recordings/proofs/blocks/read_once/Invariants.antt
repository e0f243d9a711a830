use Rattle.std.proofs.Common.{◌≡◌, length}
use Rattle.std.specs.Io.KnownBytes.{Keeps}
use Rattle.spa_recordings.proofs.blocks.read_once.Given as goal

abbrev pub invariant-loop : goal.invariant-loop
invariant-loop g l = (length l.room ≡ length l.fn.room) × Keeps (g.R.Read.remaining l.fn.input) (g.R.Read.remaining l.input)
