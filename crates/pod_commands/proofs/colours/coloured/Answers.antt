use Rattle.std.proofs.Common.{rules}
use Rattle.std.proofs.lemmas.List.{nil_from_length}
use Rattle.pod_commands.proofs.Coloured.{ends}
use Rattle.pod_commands.proofs.colours.coloured.Goals as goal

pub returns : goal.returns
returns c = ends c.args.text.now c.loop-left.left.now c.loop-left.out.items (nil_from_length c.loop-left.left.now (search rules)) c.loop-left.invariant
