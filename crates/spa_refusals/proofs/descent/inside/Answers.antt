use Rattle.std.proofs.Common.{◌<◌, ◌≤◌, ◌-◌, arith}
use Rattle.spa_refusals.proofs.Descending.{in_object_body, in_struct_body}
use Rattle.spa_refusals.proofs.Stepping.{none_more, object_none, some_more}
use Rattle.spa_refusals.proofs.descent.inside.Goals as goal

pub overflow_sub-at : goal.overflow_sub-at
overflow_sub-at c =
    (in_object_body c.args.fault.place.now c.args.fault.why _ _ _ _ _ _ _ c.in-Some.ensures.there c.in-Some-inside_of.ensures.there c.if-inner.true
    c.requires).0

pub in_properties-requires : goal.in_properties-requires
in_properties-requires c =
    (in_object_body c.args.fault.place.now c.args.fault.why _ _ _ _ _ _ _ c.in-Some.ensures.there c.in-Some-inside_of.ensures.there c.if-inner.true
    c.requires).1

pub returns-then-inner-clause-less : goal.returns-then-inner-clause-less
returns-then-inner-clause-less c =
    let room =
    (in_object_body c.args.fault.place.now c.args.fault.why _ _ _ _ _ _ _ c.in-Some.ensures.there c.in-Some-inside_of.ensures.there c.if-inner.true
    c.requires).0 in
    some_more c.in_properties.result (λ it. it.1 ≤ c.args.at - 16) (λ it. it.1 < c.args.at) (λ it h. omega (arith, h, room)) c.in_properties.ensures.within

pub returns-then-inner-clause-none : goal.returns-then-inner-clause-none
returns-then-inner-clause-none c =
    none_more c.in_properties.result _ _ (λ h. object_none _ _ _ _ _ _ c.in-Some.ensures.there c.in-Some-inside_of.ensures.there c.if-inner.true h)
    c.in_properties.ensures.none

pub overflow_sub-at-2 : goal.overflow_sub-at-2
overflow_sub-at-2 c =
    (in_struct_body c.args.fault.place.now c.args.fault.why _ _ _ _ _ _ _ c.in-Some.ensures.there c.in-Some-inside_of.ensures.there c.if-inner.false
    c.requires).0

pub in_members-requires : goal.in_members-requires
in_members-requires c =
    (in_struct_body c.args.fault.place.now c.args.fault.why _ _ _ _ _ _ _ c.in-Some.ensures.there c.in-Some-inside_of.ensures.there c.if-inner.false
    c.requires).1

pub returns-clause-less : goal.returns-clause-less
returns-clause-less c =
    let room =
    (in_struct_body c.args.fault.place.now c.args.fault.why _ _ _ _ _ _ _ c.in-Some.ensures.there c.in-Some-inside_of.ensures.there c.if-inner.false
    c.requires).0 in
    let w = c.in_ok-found.ensures.within in
    omega (arith, room, w)
