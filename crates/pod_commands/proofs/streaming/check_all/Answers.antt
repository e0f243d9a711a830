use Rattle.pod_commands.proofs.Checked.{not_checked}
use Rattle.pod_commands.proofs.streaming.check_all.Goals as goal

pub returns-in-Err-clause-refused : goal.returns-in-Err-clause-refused
returns-in-Err-clause-refused g c =
    not_checked c.args.reading (g.R.Read.remaining c.args.inputs.input.now) (g.S.Files.holds c.args.inputs.files.now) c.args.names.now _ _ c.in-Err.why c.in-Err.ensures.broken
