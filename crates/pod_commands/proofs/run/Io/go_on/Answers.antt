use Rattle.std.proofs.Common.{inl}
use Rattle.pod_commands.proofs.Running.{untouched}
use Rattle.pod_commands.proofs.run.Io.go_on.Goals as goal

pub returns-in-Err : goal.returns-in-Err
returns-in-Err g c = inl (c.in-Err.ensures.refused, untouched c.args.task.target (g.W.Write.contents c.args.self.device) (g.S.Files.holds c.args.self.files.now))
