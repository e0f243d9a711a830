use Rattle.std.proofs.Common.{arith}
use Rattle.spav.proofs.ItemsRead.{are_past, are_read}
use Rattle.spav.proofs.items.spav_read.Goals as goal

pub returns-then-listed-out-clause-room : goal.returns-then-listed-out-clause-room
returns-then-listed-out-clause-room c = λ e. are_past _ _ _ _ c.in-Some.ensures.count c.in-Some.ensures.items c.if-listed-out.true

pub returns-clause-done : goal.returns-clause-done
returns-clause-done c = λ e.
    let h = c.if-listed-out.false in are_read _ _ _ _ c.in-Some.ensures.count c.in-Some.ensures.items (omega arith)
