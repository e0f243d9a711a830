use Rattle.std.proofs.Common.{◌≡◌, ◌+◌, ◌-◌, arith, length, refl, subst}
use Rattle.spa_format.specs.Walk.{walk}
use Rattle.spa_format.proofs.Fronts.{rest_is_shorter}
use Rattle.spa_text_commands.specs.Selection.{selected}
use Rattle.spa_text_commands.proofs.Saying.{SoFar, all_listed, begins, front_selected, goes_on, none_passed, one_fits, one_passed}
use Rattle.spa_text_commands.proofs.showing.list_all.Goals as goal

pub loop-pod-init : goal.loop-pod-init
loop-pod-init c =
    let p = c.args.printout in
    let bytes = c.args.bytes.now in
    let lines = c.args.page.now.lines.items in
    let e : c.args.place ≡ c.args.place + (length bytes - length bytes) = omega arith in (
      subst (λ z. SoFar p.form (selected p.selection c.args.count c.args.place (walk bytes)) (selected p.selection c.args.count z (walk bytes)) lines lines 0) e
          (begins p.form (selected p.selection c.args.count c.args.place (walk bytes)) lines),
      none_passed c.args.count bytes,
    )

pub overflow_sub-at : goal.overflow_sub-at
overflow_sub-at c = c.loop-pod.invariant.1.fits

pub overflow_add-at : goal.overflow_add-at
overflow_add-at c =
    let f = c.loop-pod.invariant.1.fits in
    let r = c.requires.place in
    omega (arith, f, r)

pub overflow_add-before : goal.overflow_add-before
overflow_add-before c =
    let f = (one_fits c.args.count c.args.place c.args.bytes.now c.loop-pod.left.now _ c.loop-pod.before c.loop-pod.refused c.in-Some.ensures.there
    c.in-Some.ensures.front c.requires.count c.requires.place c.loop-pod.invariant.1).0 in
    omega (arith, f)

pub overflow_add-refused : goal.overflow_add-refused
overflow_add-refused c =
    let passed = one_passed c.args.count c.args.bytes.now c.loop-pod.left.now c.in-Some.behind.now _ c.loop-pod.before c.loop-pod.refused _ c.in-Some.ensures.there
    c.in-Some.ensures.front c.in-Some.ensures.rest c.in_ok-refused.ensures.few c.loop-pod.invariant.1 in
    let f = passed.few_refused in
    let r = c.requires.place in
    omega (arith, f, r)

pub loop-pod-smaller : goal.loop-pod-smaller
loop-pod-smaller c = rest_is_shorter c.loop-pod.left.now c.in-Some.behind.now c.in-Some.ensures.there c.in-Some.ensures.rest

pub loop-pod-preserved : goal.loop-pod-preserved
loop-pod-preserved c = (
  goes_on c.args.printout.form _ _ _ _ _ _ _ c.loop-pod.refused _
      (front_selected c.args.printout c.loop-pod.before c.args.place c.args.bytes.now c.loop-pod.left.now c.in-Some.behind.now _ c.in-Some.ensures.there
      c.in-Some.ensures.front c.in-Some.ensures.rest c.loop-pod.invariant.1.fits)
      c.loop-pod.invariant.0 c.in_ok-refused.ensures.added,
  one_passed c.args.count c.args.bytes.now c.loop-pod.left.now c.in-Some.behind.now _ c.loop-pod.before c.loop-pod.refused _ c.in-Some.ensures.there
      c.in-Some.ensures.front c.in-Some.ensures.rest c.in_ok-refused.ensures.few c.loop-pod.invariant.1,
)

pub add_selected-requires-clause-count : goal.add_selected-requires-clause-count
add_selected-requires-clause-count c =
    (one_fits c.args.count c.args.place c.args.bytes.now c.loop-pod.left.now _ c.loop-pod.before c.loop-pod.refused c.in-Some.ensures.there
    c.in-Some.ensures.front c.requires.count c.requires.place c.loop-pod.invariant.1).0

pub add_selected-requires-clause-place : goal.add_selected-requires-clause-place
add_selected-requires-clause-place c =
    (one_fits c.args.count c.args.place c.args.bytes.now c.loop-pod.left.now _ c.loop-pod.before c.loop-pod.refused c.in-Some.ensures.there
    c.in-Some.ensures.front c.requires.count c.requires.place c.loop-pod.invariant.1).1

pub returns : goal.returns
returns c =
    all_listed c.args.printout c.args.count c.args.place c.args.bytes.now c.loop-pod.left.now c.loop-pod.before _ _ _ c.in_default.ensures.none refl
    c.loop-pod.invariant.1 c.loop-pod.invariant.0
