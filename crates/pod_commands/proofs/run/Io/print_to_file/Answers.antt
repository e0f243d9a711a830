use Rattle.std.proofs.Common.{Some, subst}
use Rattle.std.specs.Io.KnownBytes.{Appends}
use Rattle.pod_commands.proofs.Streamed.{shown_in, unshown, unshown_lines}
use Rattle.pod_commands.proofs.run.Io.print_to_file.Goals as goal

pub returns-in-Ok : goal.returns-in-Ok
returns-in-Ok g c =
    let made = c.in-Ok.ensures.streamed in
    let lines = c.stream_all.new.output.items in
    shown_in c.args.printing _ lines made.0 c.in-Ok.made c.shown-done.result c.answered.result.0
    c.looked_for.result c.looked_for.ensures c.shown-done.ensures made.1 made.2
    (subst (λ z. Appends (Some z) (Some lines) made.0) c.new-printed.ensures.items made.3) c.answered.ensures.made

pub returns-in-Err-Unwritten : goal.returns-in-Err-Unwritten
returns-in-Err-Unwritten g c =
    unshown_lines c.args.printing c.args.task.target (g.R.Read.remaining c.args.self.input.now) (g.S.Files.holds c.args.self.files.now) c.args.task.names.now (g.W.Write.contents c.args.self.device)

pub returns : goal.returns
returns g c =
    unshown c.args.printing c.args.task.target (g.R.Read.remaining c.args.self.input.now) (g.S.Files.holds c.args.self.files.now) c.args.task.names.now (g.W.Write.contents c.args.self.device) _ _
    c.in-Err.why c.in-Err.ensures.broken
