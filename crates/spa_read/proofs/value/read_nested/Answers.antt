use Rattle.spa_read.proofs.Readings.{is_lenient}
use Rattle.std.proofs.Common.{arith, reverse, subst, sym}
use Rattle.spa_read.specs.Nesting.{IsBegunAs, RefusesIn, Steps, around}
use Rattle.spa_read.proofs.Nesting.{first_under_way}
use Rattle.spa_read.proofs.Counting.{short_object_at}
use Rattle.spa_read.proofs.value.read_nested.Goals as goal

pub returns-in-Err-clause-refused : goal.returns-in-Err-clause-refused
returns-in-Err-clause-refused g c =
    let r = c.in-Err.ensures.refused in
    subst (λ n. RefusesIn (is_lenient g.row.LENIENT) c.args.input.now c.args.input.now n c.in-Err.why) (sym c.requires.one)
    (short_object_at (is_lenient g.row.LENIENT) _ _ _ _ _ c.requires.opens r.0 r.1 r.2)

pub loop-nest-preserved : goal.loop-nest-preserved
loop-nest-preserved g c =
    let input = c.args.input.now in
    let to = c.step.new.self in
    let taken = c.in-Ok-true.ensures.taken input c.loop-nest.invariant.0 in
    let counted = c.loop-nest.invariant.1 in
    let more = c.step.ensures.more in
    let under_way = subst (λ b. Steps (is_lenient g.row.LENIENT) b input to.inner (reverse (around to)) c.step.new.left.now c.step.new.opened)
    c.in-Ok-true.field-0-test taken in
    (under_way, omega arith)

pub loop-nest-init : goal.loop-nest-init
loop-nest-init g c =
    let front = c.args.front in
    let nest = c.new-nest.result in
    let begun = subst (λ o. IsBegunAs front.type_ front.body.now front.rest.now o c.in-Ok.begun.1.now)
    (sym c.new-nest.ensures.inner) c.in-Ok.ensures.begun in
    let one = c.requires.one in (
      first_under_way (is_lenient g.row.LENIENT) c.args.input.now front.body.now front.rest.now c.in-Ok.begun.1.now front.type_ c.args.opened.now
          nest.inner (around nest) c.requires.opens begun one c.new-nest.ensures.alone,
      omega arith,
    )
