use Rattle.std.proofs.Common.{◌≡◌, ◌-◌, ◌*◌, ◌≤◌, ap, arith, length, length-drop, subst}
use Rattle.spa_items.proofs.Listed.{element_listed, element_room, elements_begun, elements_listed, no_elements, their_parts}
use Rattle.spa_items.proofs.Overlays.{renamed}
use Rattle.spa_items.proofs.elements.put_elements.Goals as goal

pub returns-then-type_-2-clause-put : goal.returns-then-type_-2-clause-put
returns-then-type_-2-clause-put c = no_elements _ _ c.args.depth c.args.at c.args.body.now _ c.if-type_.true c.if-type_-2.true

pub loop-done-init : goal.loop-done-init
loop-done-init c = (
  elements_begun _ _ _ _ _ _ _ _,
  omega arith,
  let f = c.elements_of-elements.ensures.fit in let e : c.elements_of-elements.result.count ≡ c.elements_of-elements.result.count - 0 = omega arith in
      subst (λ n. n * c.elements_of-elements.result.size ≤ length c.elements_of-elements.result.bytes.now) e f,
  omega arith,
)

pub split_at-requires : goal.split_at-requires
split_at-requires c = (element_room _ _ _ _ c.loop-done-test.true c.loop-done.invariant.2).0

pub loop-done-preserved : goal.loop-done-preserved
loop-done-preserved c =
    let i = c.loop-done.invariant in
    let r = (element_room _ _ _ _ c.loop-done-test.true i.2).1 in
    let back = c.split_at.ensures.back in
    let l = ap length back in
    let d = length-drop c.elements_of-elements.result.size c.loop-done.left.now in
    let lt = c.loop-done-test.true in (
      element_listed _ _ _ _ _ _ _ _ _ _ _ _ _ _ _ lt c.element.ensures c.split_at.ensures.front back i.0 c.put.ensures,
      omega arith,
      omega arith,
      (let w = i.3 in omega arith),
    )

pub returns-clause-put : goal.returns-clause-put
returns-clause-put c =
    renamed _ _ _ _ _ _ (their_parts _ _ _ _ _ c.elements_of-elements.ensures.them)
    (let n = c.loop-done-test.false in elements_listed _ _ _ _ _ _ _ _ _ _ _ _ (omega arith) c.loop-done.invariant.0)

pub returns-clause-few : goal.returns-clause-few
returns-clause-few c =
    let f = c.elements_of-elements.ensures.few in
    let w = c.elements_of-elements.ensures.within in
    let i = c.loop-done.invariant.1 in
    omega arith
