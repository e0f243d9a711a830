use Rattle.std.proofs.lemmas.Result.{on_err_weaker}
use Rattle.spa_format.specs.Tree.{pointer}
use Rattle.spa_typed_write.proofs.Completing.{keeps_begun}
use Rattle.spa_typed_write.proofs.borrowed.Tuple2U32U64SerializeAs.write_as.Goals as goal

pub returns-clause-keeps : goal.returns-clause-keeps
returns-clause-keeps g c =
    on_err_weaker c.put_pointer.result
    (keeps_begun g.met.O.PodOutput.content_appends c.args.out.now c.put_pointer.new.sink (pointer c.args.self.now.0 c.args.self.now.1))
    c.put_pointer.ensures.begun
