use Rattle.std.proofs.Common.{◌∙◌, ap, arith, length, length-drop, sym}
use Rattle.spa_events.specs.Inside.{key_size}
use Rattle.spa_format.specs.Walk.{extent_behind}
use Rattle.spa_recordings.specs.Cut.{behind_whole}
use Rattle.spa_recordings.proofs.Ended.{behind_last, behind_next, first_passed}
use Rattle.spa_recordings.proofs.cut.behind_whole.Goals as goal

pub loop-front-preserved : goal.loop-front-preserved
loop-front-preserved c =
    let passed = first_passed c.args.keyed c.loop-front.left.now _ _ _ c.in-Some.ensures.there in
    ap (behind_whole (key_size c.args.keyed)) passed.1 ∙ sym (behind_next (key_size c.args.keyed) c.loop-front.left.now passed.0) ∙ c.loop-front.invariant

pub loop-front-smaller : goal.loop-front-smaller
loop-front-smaller c =
    let passed = first_passed c.args.keyed c.loop-front.left.now _ _ _ c.in-Some.ensures.there in
    let s = ap length passed.1 in
    let d = length-drop (extent_behind (key_size c.args.keyed) c.loop-front.left.now) c.loop-front.left.now in
    let p = passed.0 in
    omega (arith, d, s, p)

pub returns : goal.returns
returns c = sym (behind_last (key_size c.args.keyed) c.loop-front.left.now c.in_default.ensures.short) ∙ c.loop-front.invariant
