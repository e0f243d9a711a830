use Rattle.std.proofs.Common.{arith}
use Rattle.spav.proofs.Written.{list_written}
use Rattle.spav.proofs.lists.put_into.Goals as goal

pub returns-then-input-out-clause-done : goal.returns-then-input-out-clause-done
returns-then-input-out-clause-done c = λ _.
    let fits = c.if-input-out.true in
    let within = c.in-Some.ensures.within in
    let same = c.rewrite_into.auto.out in
    list_written _ _ _ _ (c.in-Some.ensures.rewritten (omega arith)) (omega arith)
