use Rattle.spa_events.specs.Inside.{key_size}
use Rattle.spa_recordings.proofs.Likely.{look_begins, look_ends, look_next, look_none, yes}
use Rattle.spa_recordings.proofs.plausible.are_whole_first.Goals as goal

pub loop-count-init : goal.loop-count-init
loop-count-init c = look_begins _ _

pub loop-count-preserved : goal.loop-count-preserved
loop-count-preserved c =
    look_next c.args.keyed c.args.pods.now c.loop-count.left.now _ _ c.loop-count._count _ c.loop-count-test.true c.in-Some.ensures.there c.loop-count.invariant

pub returns-in_default : goal.returns-in_default
returns-in_default c =
    look_none (key_size c.args.keyed) c.args.pods.now c.loop-count.left.now c.loop-count._count _ c.loop-count-test.true c.is_empty.ensures
    c.in_default.ensures.short c.loop-count.invariant

pub returns : goal.returns
returns c = yes (look_ends (key_size c.args.keyed) c.args.pods.now c.loop-count.left.now c.loop-count._count c.loop-count-test.false c.loop-count.invariant)
