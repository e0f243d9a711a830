use Rattle.std.proofs.Common.{refl}
use Rattle.pod_commands.proofs.Running.{untouched}
use Rattle.pod_commands.proofs.run.Io.print.Goals as goal

pub returns-in-GoesOn-default-default : goal.returns-in-GoesOn-default-default
returns-in-GoesOn-default-default g c =
    rw c.in-GoesOn-default-default.is-0 (refl, untouched c.args.task.target (g.W.Write.contents c.args.self.device) (g.S.Files.holds c.args.self.files.now))

pub returns-in-Stops-Lenient-default : goal.returns-in-Stops-Lenient-default
returns-in-Stops-Lenient-default g c = rw (c.in-Stops-Lenient-default.is-0, c.in-Stops-Lenient-default.is-1) c.print_leniently.ensures

pub returns-in-Stops-Exact-Some : goal.returns-in-Stops-Exact-Some
returns-in-Stops-Exact-Some g c =
    rw (c.in-Stops-Exact-Some.is-0, c.in-Stops-Exact-Some.is-1, c.in-Stops-Exact-Some.is-2)
    (rw c.in-Stops-Exact-Some.is-2 at c.print_to_file.ensures)

pub returns-in-Stops-Exact-None : goal.returns-in-Stops-Exact-None
returns-in-Stops-Exact-None g c =
    rw (c.in-Stops-Exact-None.is-0, c.in-Stops-Exact-None.is-1, c.in-Stops-Exact-None.is-2) c.write_as.ensures
