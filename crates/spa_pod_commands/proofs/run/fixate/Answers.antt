use Rattle.std.proofs.Common.{subst, sym}
use Rattle.spa_pod_commands.specs.Answers.{Fixates}
use Rattle.spa_pod_commands.proofs.Keeping.{write_undone}
use Rattle.spa_pod_commands.proofs.run.fixate.Goals as goal

pub returns-clause-undone : goal.returns-clause-undone
returns-clause-undone g c =
    write_undone Fixates (g.R.Read.remaining c.args.input.now) _ _ c.write.result c.in_ok-bytes.bytes.items c.as_slice.result.now c.in_ok-bytes.ensures
    (subst (Fixates c.in_ok-bytes.bytes.items) (sym c.as_slice.ensures.value) c.in_ok-made.ensures.made) c.write.ensures.begun c.write.ensures.cause
