use Rattle.std.proofs.Common.{arith}
use Rattle.spa_items.proofs.Placed.{found_here, found_none, member_here, member_passed, no_member}
use Rattle.spa_items.proofs.places.place_of_number.Goals as goal

pub returns-then-before-eq0-clause-place : goal.returns-then-before-eq0-clause-place
returns-then-before-eq0-clause-place c = found_here _ _ _ _ c.loop-first.invariant (member_here _ _ _ c.in-Some.ensures.first c.if-before-eq0.true)

pub loop-first-preserved : goal.loop-first-preserved
loop-first-preserved c =
    let ne = c.if-before-eq0.false in member_passed _ _ _ _ _ _ c.in-Some.ensures.first (omega arith) c.loop-first.invariant

pub returns-clause-place : goal.returns-clause-place
returns-clause-place c = found_none _ _ _ _ c.loop-first.invariant (no_member _ _ c.in_default.ensures.none)
