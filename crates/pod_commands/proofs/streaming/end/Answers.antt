use Rattle.std.proofs.KnownBytes.{Appends-nil}
use Rattle.pod_commands.proofs.streaming.end.Goals as goal

pub returns-in_default-show_cut : goal.returns-in_default-show_cut
returns-in_default-show_cut g c = rw (c.in-Some-Pod.is-0, c.in-Some-Pod.is-1) (Appends-nil (g.W.Write.contents c.args.output.now))
