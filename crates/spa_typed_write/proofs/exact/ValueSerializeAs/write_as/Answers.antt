use Rattle.spa_value.specs.View.{view}
use Rattle.spa_typed_write.proofs.Completing.{keeps_begun}
use Rattle.spa_typed_write.proofs.exact.ValueSerializeAs.write_as.Goals as goal

pub returns-in-Err-clause-keeps : goal.returns-in-Err-clause-keeps
returns-in-Err-clause-keeps g c =
    keeps_begun g.met.O.PodOutput.content_appends c.args.out.now c.write_sized.new.sink (view c.args.self.now) c.in-Err.ensures.begun
