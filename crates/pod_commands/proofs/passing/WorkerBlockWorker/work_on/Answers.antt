use Rattle.std.proofs.Common.{◌∙◌, refl, subst, take}
use Rattle.std.specs.Io.KnownBytes.{Appends}
use Rattle.pod_commands.specs.declared.passing.Worker.{Worker}
use Rattle.pod_commands.proofs.passing.WorkerBlockWorker.work_on.Goals as goal

pub returns-clause-unworked : goal.returns-clause-unworked
returns-clause-unworked g c =
    let self = c.args.self.now in
    let after : Worker = record { job = self.job; said = c.work_on.new.said } in
    let same = c.as_slice.ensures.value in
    let begun = c.in-Err.ensures.begun in (
      c.in-Ok.out.items,
      (after, record { job = refl; works = c.in-Ok.ensures }),
      λ e. begun.0 (same ∙ e),
      begun.1,
      subst (λ z. Appends (g.W.Write.contents c.args.output.now) (g.W.Write.contents c.write_made.new.output) (take begun.1 z)) same begun.2,
    )
