use Rattle.std.proofs.Common.{subst, sym}
use Rattle.spa_pod_commands.specs.Runs.{EndsBy, IsAnswer}
use Rattle.spa_pod_commands.proofs.Running.{ends}
use Rattle.spa_pod_commands.proofs.run.run.Goals as goal

pub returns : goal.returns
returns g c =
    let old = g.W.Write.contents c.args.output.now in
    let new = g.W.Write.contents c.answer-answer.new.output in
    let before = g.E.Write.contents c.args.faults.now in
    let after = g.E.Write.contents c.report.new.faults in
    let So = IsAnswer c.args.words.now (g.R.Read.remaining c.args.input.now) old new in
    subst (λ s. EndsBy So s before after) (sym c.status.ensures)
    (ends So before after c.answer-answer.result c.report.result
    (record {
      rewrite = c.answer-answer.ensures.rewrite;
      fixate = c.answer-answer.ensures.fixate;
      show = c.answer-answer.ensures.show;
      misuse = c.answer-answer.ensures.misuse;
    }) c.report.ensures.written c.report.ensures.begun)
