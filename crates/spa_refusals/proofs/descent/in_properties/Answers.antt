use Rattle.std.proofs.Common.{arith, refl}
use Rattle.spa_refusals.proofs.Descending.{behind_first_property, behind_words, in_first_value}
use Rattle.spa_refusals.proofs.Passing.{begins, goes_on}
use Rattle.spa_refusals.proofs.Stepping.{value_found}
use Rattle.spa_refusals.proofs.descent.in_properties.Goals as goal

pub loop-left-init : goal.loop-left-init
loop-left-init c = (begins c.args.properties.now, refl, c.requires, omega arith)

pub overflow_sub-in_value : goal.overflow_sub-in_value
overflow_sub-in_value c = behind_words c.args.fault.place.now c.args.fault.why _ _ c.loop-left-test.true c.loop-left.invariant.2

pub loop-left-preserved : goal.loop-left-preserved
loop-left-preserved c =
    let so = c.loop-left.invariant in
    let back = c.split_at.ensures.back in
    let b = c.in-Some.ensures.behind in
    let p = behind_first_property c.args.fault.place.now c.args.fault.why _ _ c.loop-left.left.now _ _ c.loop-left-test.true back b so.2 in
    let o = b.offset in
    let w = so.3 in
    (goes_on _ c.loop-left.left.now _ _ p.0.0 so.0 c.loop-left-test.true back p.0.1 b.follows, so.1, p.1, omega (arith, o, w))

pub returns-in-None-clause-step : goal.returns-in-None-clause-step
returns-in-None-clause-step c =
    value_found _ _ _ c.loop-left.left.now c.split_at.result.0.now c.split_at.result.1.now _ _ _ _ c.loop-left.invariant.0 c.loop-left.invariant.1
    c.loop-left-test.true c.split_at.ensures.front c.split_at.ensures.back refl c.u32_at.ensures c.in_ok-push_key-in-None.ensures

pub returns-in-None-clause-fault : goal.returns-in-None-clause-fault
returns-in-None-clause-fault c =
    in_first_value c.args.fault.place.now c.args.fault.why _ c.loop-left.left.now _ c.loop-left-test.true c.split_at.ensures.back c.in-None.ensures.within
    c.loop-left.invariant.2
