use Rattle.std.proofs.lemmas.Result.{on_err_weaker}
use Rattle.spa_format.specs.Tree.{bytes}
use Rattle.spa_typed_write.proofs.Completing.{keeps_begun}
use Rattle.spa_typed_write.proofs.exact.write_bytes.Goals as goal

pub returns-clause-keeps : goal.returns-clause-keeps
returns-clause-keeps g c =
    on_err_weaker c.put_bytes.result
    (keeps_begun g.met.O.PodOutput.content_appends c.args.out.now c.put_bytes.new.sink (bytes c.args.bytes.now))
    c.put_bytes.ensures.begun
