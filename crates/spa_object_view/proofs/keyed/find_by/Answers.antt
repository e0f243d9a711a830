use Rattle.std.proofs.Common.{sym, subst, arith, length-drop}
use Rattle.spa_format.specs.Typed.{IsBytes}
use Rattle.spa_object_view.proofs.Listed.{listed}
use Rattle.spa_object_view.proofs.KeyOrders.{IsFirstAt, none_by_order, first_by_order, found_there, behind_there}
use Rattle.spa_object_view.proofs.keyed.find_by.Goals as goal

pub returns-in_default-clause-found : goal.returns-in_default-clause-found
returns-in_default-clause-found c = λ ps w. none_by_order _ ps _ _ (c.requires.order ps w) c.in_default.ensures

pub returns-then-place-properties-clause-found : goal.returns-then-place-properties-clause-found
returns-then-place-properties-clause-found c = λ ps w.
    let bytes : IsBytes c.args.properties.now = λ i. omega (arith, c.type_inv.properties i) in
    let i = first_by_order c.args.key c.in-Some.place ps _ _ (listed ps _ bytes w.properties w.same) (c.requires.order ps w) c.in-Some.ensures in
    let e = length-drop c.in-Some.place c.args.properties.now in
    let h = i.first.header in
    absurd (omega arith)

pub returns-clause-found : goal.returns-clause-found
returns-clause-found c = λ ps w.
    let bytes : IsBytes c.args.properties.now = λ i. omega (arith, c.type_inv.properties i) in
    let i = first_by_order c.args.key c.in-Some.place ps _ _ (listed ps _ bytes w.properties w.same) (c.requires.order ps w) c.in-Some.ensures in
    found_there c.args.key ps c.args.properties.now _ c.first_property.result (subst (IsFirstAt c.args.key ps c.args.properties.now) (sym c.split_at.ensures.back) i)
    c.first_property.ensures.first c.first_property.ensures.none

pub returns-clause-behind : goal.returns-clause-behind
returns-clause-behind c =
    let bytes : IsBytes c.args.properties.now = λ i. omega (arith, c.type_inv.properties i) in
    behind_there c.args.key c.args.properties.now _ c.first_property.result
    (λ ps w. subst (IsFirstAt c.args.key ps c.args.properties.now) (sym c.split_at.ensures.back)
    (first_by_order c.args.key c.in-Some.place ps _ _ (listed ps _ bytes w.properties w.same) (c.requires.order ps w) c.in-Some.ensures))
    c.first_property.ensures.first
