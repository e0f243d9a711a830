use Rattle.std.proofs.Common.{◌≡◌, [], subst}
use Rattle.std.specs.Prelude.{Decides}
use Rattle.pod_commands.proofs.Leniently.{all_printed, none_printed}
use Rattle.pod_commands.proofs.run.Io.print_leniently.Goals as goal

pub returns : goal.returns
returns g c =
    all_printed c.args.printing _ c.in-Ok.made.items c.of.result c.shown-done.result c.answered.result.0
    c.in-Ok.ensures.made c.of.ensures.refused
    (subst (λ z. Decides c.of.result.nothing (z ≡ [])) c.as_slice.ensures.value c.of.ensures.nothing) c.sought_in-sought.result c.sought_in-sought.ensures c.shown-done.ensures c.answered.ensures.made

pub returns-in-Err : goal.returns-in-Err
returns-in-Err g c =
    none_printed c.args.printing c.args.task.target (g.R.Read.remaining c.args.self.input.now) (g.S.Files.holds c.args.self.files.now) c.args.task.names.now
    (g.W.Write.contents c.args.self.device) c.in-Err.why c.in-Err.ensures.refused
