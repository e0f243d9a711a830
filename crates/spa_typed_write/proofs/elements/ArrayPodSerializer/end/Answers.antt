use Rattle.std.proofs.Common.{arith}
use Rattle.spa_typed_write.proofs.OpenArrays.{array_ended_count, array_ended_there}
use Rattle.spa_typed_write.proofs.elements.ArrayPodSerializer.end.Goals as goal

pub returns-clause-pod : goal.returns-clause-pod
returns-clause-pod g c =
    let h = rw c.in-Some.is at c.self.invariant in
    rw (← c.self.view_is, c.in-Some.is)
    (array_ended_there _ _ _ _ _ _ h (omega (arith, c.if-left-ne0.false)) (omega (arith, c.len.ensures))
    (g.met.O.PodOutput.content_appends _ _ _ c.in_ok-put_padding.ensures.ok))

pub returns-clause-count : goal.returns-clause-count
returns-clause-count g c =
    let h = rw c.in-Some.is at c.self.invariant in
    rw (← c.self.view_is, c.in-Some.is, c.len-2.ensures)
    (array_ended_count _ _ _ _ _ _ h (omega (arith, c.if-left-ne0.false)) (omega (arith, c.len.ensures))
    (g.met.O.PodOutput.content_appends _ _ _ c.in_ok-put_padding.ensures.ok))

pub returns-clause-fits : goal.returns-clause-fits
returns-clause-fits g c =
    let h = rw c.in-Some.is at c.self.invariant in
    rw (← c.self.view_is, c.in-Some.is) (omega (arith, h.fits))
