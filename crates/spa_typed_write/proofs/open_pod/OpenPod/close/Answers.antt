use Rattle.std.proofs.Common.{arith}
use Rattle.spa_bytes.proofs.Passing.{passed_on}
use Rattle.spa_typed_write.proofs.OpenPods.{begun_is_body, closed_behind, closed_count, closed_there}
use Rattle.spa_typed_write.proofs.open_pod.OpenPod.close.Goals as goal

pub returns-clause-pod : goal.returns-clause-pod
returns-clause-pod g c =
    let h = rw c.in-Some.is at c.self.invariant in
    rw (← c.self.view_is, c.in-Some.is) (closed_there _ _ _ _ h c.in_ok-close.ensures.closed.sized)

pub returns-clause-count : goal.returns-clause-count
returns-clause-count g c =
    let h = rw c.in-Some.is at c.self.invariant in
    rw (← c.self.view_is, c.in-Some.is, c.len.ensures) (closed_count _ _ _ _ h c.in_ok-close.ensures.closed.sized)

pub returns-clause-fits : goal.returns-clause-fits
returns-clause-fits g c =
    let h = rw c.in-Some.is at c.self.invariant in
    rw (← c.self.view_is, c.in-Some.is) (omega (arith, c.in_ok-close.ensures.closed.fits, begun_is_body _ _ _ h))

pub overflow_sub-len : goal.overflow_sub-len
overflow_sub-len g c =
    let h = rw c.in-Some.is at c.self.invariant in
    omega (arith, c.len.ensures, closed_behind _ _ _ _ h c.in_ok-close.ensures.closed.sized)

pub returns-in_err-close-clause-cause : goal.returns-in_err-close-clause-cause
returns-in_err-close-clause-cause g c =
    let h = rw c.in-Some.is at c.self.invariant in
    passed_on _ _ (λ _. _) c.from_residual.ensures.1
    (rw (← c.self.view_is, c.in-Some.is)
    (c.in_err-close.ensures.large.0, omega (arith, c.in_err-close.ensures.large.1, begun_is_body _ _ _ h)))
