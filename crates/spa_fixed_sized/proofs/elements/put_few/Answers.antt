use Rattle.std.proofs.Common.{◌∙◌, ◌*◌, length, take, ap}
use Rattle.std.proofs.lemmas.Result.{on_err_weaker}
use Rattle.spa_sink.proofs.Sending.{begun_as, begun_by}
use Rattle.spa_fixed_sized.proofs.elements.put_few.Goals as goal

pub returns-clause-begun : goal.returns-clause-begun
returns-clause-begun g c =
    let bodies =
    ap (λ n. take (length c.args.values.now * n) c.fill.new.block) c.SIZE.ensures ∙ c.fill.ensures.bodies in
    on_err_weaker c.append.result (λ p. begun_as _ _ _ _ bodies (begun_by _ _ _ _ p.1)) c.append.ensures.begun
