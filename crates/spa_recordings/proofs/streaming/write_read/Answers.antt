use Rattle.spa_recordings.proofs.Streamed.{read_written}
use Rattle.spa_recordings.proofs.streaming.write_read.Goals as goal

pub returns-in-Ok-write_block-clause-written : goal.returns-in-Ok-write_block-clause-written
returns-in-Ok-write_block-clause-written g c =
    read_written c.args.reading _ c.args.block.now c.read_in_place.new.block c.in-Ok.len c.in-Ok-write_block.made _ _ c.in-Ok.ensures.within
    c.read_in_place.ensures.long c.in-Ok.ensures.read c.in-Ok-write_block.ensures.written
