use Rattle.std.proofs.Common.{inl, inr}
use Rattle.pod_commands.specs.Inputs.{left_behind}
use Rattle.pod_commands.proofs.Unread.{known_unread}
use Rattle.pod_commands.proofs.pairs.read_both.Goals as goal

pub returns-in-Err-clause-refused : goal.returns-in-Err-clause-refused
returns-in-Err-clause-refused g c = inl c.in-Err.ensures.refused

pub returns-in-Err-read_pods-clause-refused : goal.returns-in-Err-read_pods-clause-refused
returns-in-Err-read_pods-clause-refused g c =
    inr (known_unread c.args.reading (left_behind (g.R.Read.remaining c.args.inputs.input.now) c.args.names.ours.now) _ (g.S.Files.holds c.args.inputs.files.now)
    c.args.names.theirs.now c.in-Err-read_pods.why c.in-Ok.ensures.left c.in-Err-read_pods.ensures.refused)
