use Rattle.std.proofs.lemmas.Result.{on_err_weaker}
use Rattle.spa_format.specs.Tree.{bitmap}
use Rattle.spa_typed_write.proofs.Completing.{keeps_begun}
use Rattle.spa_typed_write.proofs.borrowed.BitmapSerializeAs.write_as.Goals as goal

pub returns-clause-keeps : goal.returns-clause-keeps
returns-clause-keeps g c =
    on_err_weaker c.put_bitmap.result
    (keeps_begun g.met.O.PodOutput.content_appends c.args.out.now c.put_bitmap.new.sink (bitmap c.args.self.now.0.now))
    c.put_bitmap.ensures.begun
