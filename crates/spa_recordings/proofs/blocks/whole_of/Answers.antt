use Rattle.std.proofs.Common.{◌<◌, ◌^◌, arith, length, rules}
use Rattle.spa_format.proofs.Fronts.{rest_is_shorter}
use Rattle.spa_recordings.proofs.Holding.{walk_begins, walk_counts_all, walk_few, walk_goes_on}
use Rattle.spa_recordings.proofs.blocks.whole_of.Goals as goal

pub loop-front-init : goal.loop-front-init
loop-front-init c = walk_begins c.args.bytes.now

pub loop-front-preserved : goal.loop-front-preserved
loop-front-preserved c =
    let opened = c.in-Some.ensures.there in
    walk_goes_on c.args.bytes.now c.loop-front.left.now _ _ opened.there opened.its_rest c.loop-front.invariant

pub returns-clause-all : goal.returns-clause-all
returns-clause-all c = walk_counts_all c.args.bytes.now c.loop-front.left.now c.loop-front.count c.loop-front.invariant c.in_default.ensures.short

pub loop-front-smaller : goal.loop-front-smaller
loop-front-smaller c =
    let opened = c.in-Some.ensures.there in rest_is_shorter c.loop-front.left.now _ opened.there opened.its_rest

pub overflow_add-count : goal.overflow_add-count
overflow_add-count c =
    let f = walk_few c.args.bytes.now c.loop-front.left.now c.loop-front.count c.loop-front.invariant in
    let l : length c.args.bytes.now < 2 ^ 64 = search rules in
    omega (arith, f, l)
