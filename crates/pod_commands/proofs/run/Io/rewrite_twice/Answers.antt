use Rattle.std.proofs.Common.{[], Some, inl, inr, refl}
use Rattle.pod_commands.proofs.Twice.{read_again, refused_first}
use Rattle.pod_commands.proofs.run.Io.rewrite_twice.Goals as goal

pub returns-in-Some : goal.returns-in-Some
returns-in-Some g c =
    refused_first (g.R.Read.remaining c.args.self.input.now) (Some []) (g.S.Files.holds c.args.self.files.now) c.args.task.names.now
    (g.W.Write.contents c.args.self.device) _ c.requires.files (inl (inr (c.in-Some.name, _, refl)))

pub returns : goal.returns
returns g c =
    read_again c.write_as.result.0 (g.R.Read.remaining c.args.self.input.now) (Some []) c.args.task.names.now _ c.requires c.in-Ok.ensures.accepted
    c.write_as.ensures

pub returns-in-Err : goal.returns-in-Err
returns-in-Err g c =
    refused_first (g.R.Read.remaining c.args.self.input.now) (Some []) (g.S.Files.holds c.args.self.files.now) c.args.task.names.now
    (g.W.Write.contents c.args.self.device) c.in-Err.why c.requires.files c.in-Err.ensures.refused
