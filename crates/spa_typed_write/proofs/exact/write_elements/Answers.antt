use Rattle.std.proofs.Common.{map}
use Rattle.std.proofs.lemmas.Result.{on_err_weaker}
use Rattle.spa_format.specs.Tree.{array}
use Rattle.spa_typed_write.proofs.Completing.{keeps_begun}
use Rattle.spa_typed_write.proofs.exact.write_elements.Goals as goal

pub returns-clause-keeps : goal.returns-clause-keeps
returns-clause-keeps g c =
    on_err_weaker c.put_elements.result
    (keeps_begun g.met.O.PodOutput.content_appends c.args.out.now c.put_elements.new.sink (array g.T.CanonicalFixedSizedPod.kind (map g.T.CanonicalFixedSizedPod.fixed c.args.values.now)))
    c.put_elements.ensures.begun
