use Rattle.std.proofs.Common.{subst, sym}
use Rattle.spa_pod_commands.specs.Answers.{Rewrites}
use Rattle.spa_pod_commands.proofs.Keeping.{write_undone}
use Rattle.spa_pod_commands.proofs.run.rewrite.Goals as goal

pub returns-clause-undone : goal.returns-clause-undone
returns-clause-undone g c =
    write_undone Rewrites (g.R.Read.remaining c.args.input.now) _ _ c.write.result c.in_ok-bytes.bytes.items c.as_slice.result.now c.in_ok-bytes.ensures
    (subst (Rewrites c.in_ok-bytes.bytes.items) (sym c.as_slice.ensures.value) c.in_ok-made.ensures.made) c.write.ensures.begun c.write.ensures.cause
