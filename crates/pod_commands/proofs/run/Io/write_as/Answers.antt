use Rattle.pod_commands.proofs.Streamed.{all_written, part_written}
use Rattle.pod_commands.proofs.run.Io.write_as.Goals as goal

pub returns : goal.returns
returns g c =
    all_written c.args.reading c.args.streaming _ _ c.args.task.names.now _ _ c.in-Ok.made c.shown.result c.looked_for.result c.looked_for.ensures
    c.shown.ensures c.in-Ok.ensures.streamed

pub returns-in-Err : goal.returns-in-Err
returns-in-Err g c = part_written c.args.reading c.args.streaming _ _ c.args.task.names.now _ _ c.in-Err.why c.in-Err.ensures.broken
