use Rattle.std.proofs.lemmas.Result.{on_err_weaker}
use Rattle.spa_fixed_sized.specs.Choices.{choice_tree}
use Rattle.spa_typed_write.proofs.Completing.{keeps_begun}
use Rattle.spa_typed_write.proofs.choices.ChoiceSerializeAs.write_as.Goals as goal

pub returns-clause-keeps : goal.returns-clause-keeps
returns-clause-keeps g c =
    on_err_weaker c.put_alternatives.result
    (keeps_begun g.met.O.PodOutput.content_appends c.args.out.now c.put_alternatives.new.sink (choice_tree g.T.CanonicalFixedSizedPod.kind g.T.CanonicalFixedSizedPod.fixed c.args.self.now))
    c.put_alternatives.ensures.begun
