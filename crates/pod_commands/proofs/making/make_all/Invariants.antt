use Rattle.std.proofs.Common.{drop}
use Rattle.pod_commands.specs.Making.{MakesAll, RefusesBy}
use Rattle.pod_commands.proofs.Made.{MadeSoFar}
use Rattle.pod_commands.proofs.making.make_all.Given as goal

abbrev pub invariant-loop-name : goal.invariant-loop-name
invariant-loop-name g l =
    MadeSoFar (MakesAll l.reading l.making) (λ name input made. RefusesBy l.reading l.making name input) (g.R.Read.remaining l.fn.inputs.input.now) (g.S.Files.holds l.files) l.names
    (g.R.Read.remaining l.input) (drop l.name-index l.names) l.out.items 0
