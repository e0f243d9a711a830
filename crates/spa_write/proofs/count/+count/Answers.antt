use Rattle.std.proofs.Common.{rules, ◌≡◌, ◌+◌, ◌*◌, ◌<◌, ap, arith}
use Rattle.spa_format.specs.Tree.{member_node_count, node_count, property_node_count}
use Rattle.spa_format.proofs.Shapes.{some_node}
use Rattle.spa_value.specs.declared.object.Object.{out-Object}
use Rattle.spa_value.specs.View.{view}
use Rattle.spa_value.specs.Views.{property_views, views}
use Rattle.spa_write.proofs.Counting.{count_at, count_next, property_count_at, property_count_next, whole_left, whole_more}
use Rattle.spa_write.proofs.PropertyLists.{object_of}
use Rattle.spa_write.proofs.MemberLists.{struct_of}
use Rattle.spa_write.proofs.count.+count.Goals as goal

pub left_of-returns-in_default-clause-more : goal.left_of-returns-in_default-clause-more
left_of-returns-in_default-clause-more t c =
    let small : c.args.number < 1 = search rules in
    omega (arith, small, some_node (view c.args.value.now))

pub left_of-returns-in-Struct-clause-left : goal.left_of-returns-in-Struct-clause-left
left_of-returns-in-Struct-clause-left t c =
    let less : c.args.number ≡ c.in-Some.left + 1 = search rules in
    let is = struct_of c.in-Struct.members c.in-Struct.is c.as_slice.ensures.value in
    whole_left c.left_of_members.result c.args.number c.in-Some.left (member_node_count (views c.as_slice.result.now)) (view c.args.value.now)
    (ap node_count is) less c.left_of_members.ensures.left

pub left_of-returns-in-Struct-clause-more : goal.left_of-returns-in-Struct-clause-more
left_of-returns-in-Struct-clause-more t c =
    let less : c.args.number ≡ c.in-Some.left + 1 = search rules in
    let is = struct_of c.in-Struct.members c.in-Struct.is c.as_slice.ensures.value in
    whole_more c.left_of_members.result c.args.number c.in-Some.left (member_node_count (views c.as_slice.result.now)) (view c.args.value.now)
    (ap node_count is) less c.left_of_members.ensures.more

pub left_of-returns-in-Object-clause-left : goal.left_of-returns-in-Object-clause-left
left_of-returns-in-Object-clause-left t c =
    let less : c.args.number ≡ c.in-Some.left + 1 = search rules in
    let o = out-Object c.in-Object.object in
    let is = object_of c.in-Object.object c.in-Object.is c.as_slice-in-Object.ensures.value in
    whole_left c.left_of_properties.result c.args.number c.in-Some.left (property_node_count (property_views c.as_slice-in-Object.result.now))
    (view c.args.value.now) (ap node_count is) less c.left_of_properties.ensures.left

pub left_of-returns-in-Object-clause-more : goal.left_of-returns-in-Object-clause-more
left_of-returns-in-Object-clause-more t c =
    let less : c.args.number ≡ c.in-Some.left + 1 = search rules in
    let o = out-Object c.in-Object.object in
    let is = object_of c.in-Object.object c.in-Object.is c.as_slice-in-Object.ensures.value in
    whole_more c.left_of_properties.result c.args.number c.in-Some.left (property_node_count (property_views c.as_slice-in-Object.result.now))
    (view c.args.value.now) (ap node_count is) less c.left_of_properties.ensures.more

pub left_of_all-returns-in_default-clause-more : goal.left_of_all-returns-in_default-clause-more
left_of_all-returns-in_default-clause-more t c =
    let v = c.member-item.result in
    let all = count_at c.args.members.now c.loop-member.member-index v c.loop-member-test.true c.member-item.is in
    omega (arith, all, c.loop-member.invariant, c.in_default.ensures.more)

pub left_of_properties-returns-in_default-clause-more : goal.left_of_properties-returns-in_default-clause-more
left_of_properties-returns-in_default-clause-more t c =
    let p = c.property-item.result in
    let all = property_count_at c.args.properties.now c.loop-property.property-index p c.loop-property-test.true c.property-item.is in
    omega (arith, all, c.loop-property.invariant, c.in_default.ensures.more)

pub left_of_all-loop-member-preserved : goal.left_of_all-loop-member-preserved
left_of_all-loop-member-preserved t c =
    let v = c.member-item.result in
    let next = count_next c.args.members.now c.loop-member.member-index v c.loop-member-test.true c.member-item.is in
    omega (arith, next, c.loop-member.invariant, c.in-Some.ensures.left)

pub left_of_properties-loop-property-preserved : goal.left_of_properties-loop-property-preserved
left_of_properties-loop-property-preserved t c =
    let p = c.property-item.result in
    let next = property_count_next c.args.properties.now c.loop-property.property-index p c.loop-property-test.true c.property-item.is in
    omega (arith, next, c.loop-property.invariant, c.in-Some.ensures.left)

pub left_of-left_of_members-requires : goal.left_of-left_of_members-requires
left_of-left_of_members-requires t c =
    let is = struct_of c.in-Struct.members c.in-Struct.is c.as_slice.ensures.value in
    let whole = ap node_count is in
    let smaller : 3 * member_node_count (views c.as_slice.result.now) + 2 < 3 * node_count (view c.args.value.now) = omega (arith, whole) in
    (search rules, tt)

pub left_of-left_of_properties-requires : goal.left_of-left_of_properties-requires
left_of-left_of_properties-requires t c =
    let o = out-Object c.in-Object.object in
    let is = object_of c.in-Object.object c.in-Object.is c.as_slice-in-Object.ensures.value in
    let whole = ap node_count is in
    let smaller : 3 * property_node_count (property_views c.as_slice-in-Object.result.now) + 1 < 3 * node_count (view c.args.value.now) = omega (arith, whole) in
    (search rules, tt)

pub left_of_members-left_of_all-requires : goal.left_of_members-left_of_all-requires
left_of_members-left_of_all-requires t c =
    let fewer = c.loop-lone.invariant.1 in
    let smaller : 3 * member_node_count (views c.loop-lone.inner.now) + 1 < 3 * member_node_count (views c.args.members.now) + 2 = omega (arith, fewer) in
    (search rules, tt)

pub left_of_all-left_of-requires : goal.left_of_all-left_of-requires
left_of_all-left_of-requires t c =
    let v = c.member-item.result in
    let all = count_at c.args.members.now c.loop-member.member-index v c.loop-member-test.true c.member-item.is in
    let smaller : 3 * node_count (view v) < 3 * member_node_count (views c.args.members.now) + 1 = omega (arith, all) in
    (search rules, tt)

pub left_of_properties-left_of-requires : goal.left_of_properties-left_of-requires
left_of_properties-left_of-requires t c =
    let p = c.property-item.result in
    let all = property_count_at c.args.properties.now c.loop-property.property-index p c.loop-property-test.true c.property-item.is in
    let smaller : 3 * node_count (view p.value) < 3 * property_node_count (property_views c.args.properties.now) + 1 = omega (arith, all) in
    (search rules, tt)
