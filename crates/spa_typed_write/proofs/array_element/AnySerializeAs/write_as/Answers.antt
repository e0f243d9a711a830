use Rattle.std.proofs.lemmas.Result.{on_err_weaker}
use Rattle.spa_format.specs.Tree.{fixed}
use Rattle.spa_typed_write.proofs.Completing.{keeps_begun}
use Rattle.spa_typed_write.proofs.array_element.AnySerializeAs.write_as.Goals as goal

pub returns-clause-keeps : goal.returns-clause-keeps
returns-clause-keeps g c =
    on_err_weaker c.put_number.result
    (keeps_begun g.met.O.PodOutput.content_appends c.args.out.now c.put_number.new.sink (fixed (g.T.CanonicalFixedSizedPod.fixed c.args.self.now)))
    c.put_number.ensures.begun
