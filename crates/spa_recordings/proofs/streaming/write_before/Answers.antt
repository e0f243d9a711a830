use Rattle.std.proofs.Common.{refl}
use Rattle.spa_recordings.proofs.Streamed.{begins_at, stops_at}
use Rattle.spa_recordings.proofs.streaming.write_before.Goals as goal

pub returns-in-Ok-clause-stopped : goal.returns-in-Ok-clause-stopped
returns-in-Ok-clause-stopped g c =
    stops_at c.args.reading _ _ c.args.before _ _ c.args.block.now _ _ _ _ c.in-Some.found c.in-Ok.field-0 c.requires.refuses c.in-Some.ensures refl refl
    refl refl c.in-Ok.ensures.written

pub returns-in-Err-Unwritten-clause-stopped : goal.returns-in-Err-Unwritten-clause-stopped
returns-in-Err-Unwritten-clause-stopped g c =
    begins_at _ c.args.block.now _ c.in-Some.found.at _ _ refl (rw c.in-Err-Unwritten.field-0-is at c.in-Err-Unwritten.ensures.refused)
