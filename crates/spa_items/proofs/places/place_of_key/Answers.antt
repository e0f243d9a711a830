use Rattle.spa_items.proofs.Placed.{found_here, found_none, key_here, key_passed, no_key}
use Rattle.spa_items.proofs.places.place_of_key.Goals as goal

pub returns-then-first-key-clause-place : goal.returns-then-first-key-clause-place
returns-then-first-key-clause-place c = found_here _ _ _ _ c.loop-first.invariant (key_here _ _ _ c.in-Some.ensures.first c.if-first-key.true)

pub loop-first-preserved : goal.loop-first-preserved
loop-first-preserved c = key_passed _ _ _ _ c.in-Some.ensures.first c.if-first-key.false c.loop-first.invariant

pub returns-clause-place : goal.returns-clause-place
returns-clause-place c = found_none _ _ _ _ c.loop-first.invariant (no_key _ _ c.in_default.ensures.none)
