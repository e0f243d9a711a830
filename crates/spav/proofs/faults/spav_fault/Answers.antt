use Rattle.std.proofs.Common.{length, refl, subst, arith, length-append, ap}
use Rattle.spa_canonical.specs.Look.{IsRejected}
use Rattle.spav.proofs.FirstFaults.{fault_stands}
use Rattle.spa_canonical.proofs.Changed.{changed_members}
use Rattle.spav.proofs.faults.spav_fault.Goals as goal

pub overflow_add-at : goal.overflow_add-at
overflow_add-at c =
    let x = c.in-Err-default-Fault in
    let inside = (subst (IsRejected x.left.now) x.field-0-1-is x.ensures.rejected).within in
    let l = x.ensures.left in
    let a = ap length l.2 in
    let s = length-append l.1 x.left.now in
    omega arith

pub returns-in-Err-default-TooDeep-clause-deep : goal.returns-in-Err-default-TooDeep-clause-deep
returns-in-Err-default-TooDeep-clause-deep c = λ _.
    let x = c.in-Err-default-TooDeep in
    let deep = subst (IsRejected x._left.now) x.field-0-1-is x.ensures.rejected in
    record { left = x._left.now; behind = x.ensures.left; nests = deep }

pub returns-in-Err-default-Fault-clause-fault : goal.returns-in-Err-default-Fault-clause-fault
returns-in-Err-default-Fault-clause-fault c = λ _ _.
    let x = c.in-Err-default-Fault in
    fault_stands _ x.left.now _ _ x.behind _ x.why x.ensures.left refl (subst (IsRejected x.left.now) x.field-0-1-is x.ensures.rejected) c.number_of.ensures.said

pub returns-in-Ok-clause-none : goal.returns-in-Ok-clause-none
returns-in-Ok-clause-none c = λ _ _. changed_members _ _ c.in-Ok.ensures.accepted.first
