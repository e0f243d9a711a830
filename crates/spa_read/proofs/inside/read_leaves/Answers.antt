use Rattle.spa_read.proofs.Readings.{is_lenient}
use Rattle.spa_read.proofs.Remainders.{filled}
use Rattle.spa_read.proofs.Bodies.{key_short_behind, one_read, leaf_behind, short_behind}
use Rattle.spa_read.proofs.inside.read_leaves.Goals as goal

pub returns-in_default-clause-refused : goal.returns-in_default-clause-refused
returns-in_default-clause-refused g c =
    key_short_behind (is_lenient g.row.LENIENT) _ (g.G.Grows.inside c.loop-alloc.to) _ _ _ _ c.loop-alloc.invariant
    (filled c.loop-alloc.left.now c.loop-alloc-test.ensures) c.in_default.ensures.short

pub returns-in_default-open_in-clause-refused :
    goal.returns-in_default-open_in-clause-refused
returns-in_default-open_in-clause-refused g c =
    short_behind (is_lenient g.row.LENIENT) _ _ (g.G.Grows.inside c.reach.new.self) _ _ _ _ _ _ c.loop-alloc.invariant c.reach.ensures.same
    c.in-Some.ensures.reached c.in_default-open_in.ensures.short

pub returns-in-Err-clause-refused : goal.returns-in-Err-clause-refused
returns-in-Err-clause-refused g c =
    leaf_behind (is_lenient g.row.LENIENT) _ _ (g.G.Grows.inside c.reach.new.self) _ _ _ _ _ _ _ _ _ _ c.loop-alloc.invariant c.reach.ensures.same
    c.in-Some.ensures.reached c.in-Some-open_in.ensures.there
    (c.is_container.ensures.other c.if-is_container.false) c.in-Err.ensures.refused
    c.in-Some-open_in.ensures.counted

pub loop-alloc-preserved : goal.loop-alloc-preserved
loop-alloc-preserved g c =
    let inside = g.G.Grows.inside in
    let taken = c.in_default-read_leaf_into.ensures.taken in
    one_read (is_lenient g.row.LENIENT) _ _ (inside c.reach.new.self) (inside c.reserve.new.self) _ _ _ _ _ _ _ _ _ _ taken.value
    c.loop-alloc.invariant c.reach.ensures.same c.in-Some.ensures.reached c.in-Some-open_in.ensures.there
    (c.is_container.ensures.other c.if-is_container.false) taken.its_type taken.read c.reserve.ensures.same
    (g.met.G.Grows.grown _ _ taken.value taken.taken) c.in-Some-open_in.ensures.counted
