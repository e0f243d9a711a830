use Rattle.std.proofs.Common.{arith}
use Rattle.spav.proofs.Written.{list_written}
use Rattle.spav.proofs.lenient.spav_rewrite_leniently.Goals as goal

pub returns-in-Ok-clause-done : goal.returns-in-Ok-clause-done
returns-in-Ok-clause-done c = λ _.
    let room = c.if-out-input.false in
    let within = c.in-Ok.ensures.within in
    let same = c.rewrite_into_leniently.auto.out in
    list_written _ _ _ _ (c.in-Ok.ensures.rewritten (omega arith)) (omega arith)
