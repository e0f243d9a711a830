use Rattle.std.proofs.Common.{reverse}
use Rattle.spa_write.proofs.Nesting.{less_begun, nested, pushed}
use Rattle.spa_write.proofs.nested.write_by_loop.Goals as goal

pub loop-outer-smaller-in-Some-2 : goal.loop-outer-smaller-in-Some-2
loop-outer-smaller-in-Some-2 c =
    let stop = rw c.in-Some-2.is at c.in_ok-nested.ensures.put in
    less_begun _ c.loop-outer.outer.items c.push.new.self.items c.loop-outer.inner c.in_ok-begun-in-Some-2.begun c.in-Some-2.field-0.left
    c.loop-outer.out.items _ _ c.in-Ok.ensures.items stop c.in_ok-begun-in-Some-2.ensures.begun

pub loop-outer-preserved-in-Some-2 : goal.loop-outer-preserved-in-Some-2
loop-outer-preserved-in-Some-2 c =
    let stop = rw c.in-Some-2.is at c.in_ok-nested.ensures.put in
    pushed _ c.loop-outer.outer.items c.push.new.self.items _ c.in_ok-begun-in-Some-2.begun _ c.in-Ok.ensures.items
    (nested _ _ c.loop-outer.inner c.in_ok-begun-in-Some-2.begun (reverse c.loop-outer.outer.items) c.in-Some-2.field-0.left c.loop-outer.out.items
    _ _ c.loop-outer.invariant stop c.in_ok-begun-in-Some-2.ensures.begun)
