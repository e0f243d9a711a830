use Rattle.std.proofs.Common.{◌<◌, length, take, ap, sym, ◌∙◌, subst, arith, length-drop}
use Rattle.std.proofs.lemmas.Bool.{eqb-false, eqb-true}
use Rattle.spa_builder.specs.Framed.{IsGrown}
use Rattle.spa_builder.proofs.Bodies.{all_put, grown_by, grown_twice, none_put, not_grown, one_more_put, one_there}
use Rattle.spa_fixed_sized.proofs.ChoiceReading.{whole_behind}
use Rattle.spa_builder.proofs.bytes.put_each.Goals as goal

pub loop-left-init : goal.loop-left-init
loop-left-init g c = (c.requires, none_put _ _ _, not_grown _)

pub next_element-value-requires : goal.next_element-value-requires
next_element-value-requires g c =
    let n = eqb-false _ 0 (sym c.is_empty.ensures ∙ c.loop-left-test.true) in
    let some : 0 < length c.loop-left.left.now = omega arith in
    (one_there _ _ c.loop-left.invariant.0 some).1

pub returns-in_err-append_first-clause-grown : goal.returns-in_err-append_first-clause-grown
returns-in_err-append_first-clause-grown g c = subst (IsGrown c.args.bytes.now) (sym c.in_err-append_first.ensures.unchanged) c.loop-left.invariant.2

pub loop-left-smaller : goal.loop-left-smaller
loop-left-smaller g c =
    let n = eqb-false _ 0 (sym c.is_empty.ensures ∙ c.loop-left-test.true) in
    let some : 0 < length c.loop-left.left.now = omega arith in
    let o = one_there _ _ c.loop-left.invariant.0 some in
    let d = length-drop g.T.CanonicalFixedSizedPod.SIZE c.loop-left.left.now in
    let e = ap length c.next_element-value.ensures.rest in
    let p = o.0 in
    let q = o.1 in
    omega arith

pub loop-left-preserved : goal.loop-left-preserved
loop-left-preserved g c =
    let n = eqb-false _ 0 (sym c.is_empty.ensures ∙ c.loop-left-test.true) in
    let some : 0 < length c.loop-left.left.now = omega arith in
    let o = one_there _ _ c.loop-left.invariant.0 some in
    let body = ap (λ m. take m c.padded_body.result) c.SIZE.ensures ∙ c.padded_body.ensures.body in
    let more = c.in_ok-append_first.ensures.ok in (
      whole_behind _ _ _ o.0 c.loop-left.invariant.0 o.1 c.next_element-value.ensures.rest,
      one_more_put _ _ _ _ _ _ _ _ _ _ g.met.T.CanonicalFixedSizedPod.its_size some c.next_element-value.ensures.says c.next_element-value.ensures.rest
          more body c.loop-left.invariant.1,
      grown_twice _ _ _ c.loop-left.invariant.2 (grown_by _ _ _ more),
    )

pub returns-clause-ok : goal.returns-clause-ok
returns-clause-ok g c =
    let none = eqb-true _ _ (sym c.is_empty.ensures ∙ c.loop-left-test.false) in
    all_put _ _ _ _ _ none c.loop-left.invariant.1

pub returns-clause-grown : goal.returns-clause-grown
returns-clause-grown g c = c.loop-left.invariant.2
