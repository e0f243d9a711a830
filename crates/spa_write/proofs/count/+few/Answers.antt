use Rattle.std.proofs.Common.{rules, ◌+◌, ◌*◌, ◌<◌, ap, arith}
use Rattle.spa_format.specs.Tree.{member_node_count, node_count, property_node_count}
use Rattle.spa_value.specs.declared.object.Object.{out-Object}
use Rattle.spa_value.specs.View.{view}
use Rattle.spa_value.specs.Views.{property_views, views}
use Rattle.spa_write.proofs.Counting.{count_at, property_count_at}
use Rattle.spa_write.proofs.PropertyLists.{object_of}
use Rattle.spa_write.proofs.MemberLists.{struct_of}
use Rattle.spa_write.proofs.count.+few.Goals as goal

pub few_left-few_left_of_members-requires : goal.few_left-few_left_of_members-requires
few_left-few_left_of_members-requires t c =
    let is = struct_of c.in-Struct.members c.in-Struct.is c.as_slice.ensures.value in
    let whole = ap node_count is in
    let smaller : 2 * member_node_count (views c.as_slice.result.now) + 1 < 2 * node_count (view c.args.value.now) = omega (arith, whole) in
    (search rules, tt)

pub few_left-few_left_of_properties-requires : goal.few_left-few_left_of_properties-requires
few_left-few_left_of_properties-requires t c =
    let o = out-Object c.in-Object.object in
    let is = object_of c.in-Object.object c.in-Object.is c.as_slice-in-Object.ensures.value in
    let whole = ap node_count is in
    let smaller : 2 * property_node_count (property_views c.as_slice-in-Object.result.now) + 1 < 2 * node_count (view c.args.value.now) = omega (arith, whole) in
    (search rules, tt)

pub few_left_of_members-few_left-left-requires : goal.few_left_of_members-few_left-left-requires
few_left_of_members-few_left-left-requires t c =
    let v = c.member-item.result in
    let all = count_at c.innermost-inner.result.now c.loop-member.member-index v c.loop-member-test.true c.member-item.is in
    let fewer = c.innermost-inner.ensures in
    let smaller : 2 * node_count (view v) < 2 * member_node_count (views c.args.members.now) + 1 = omega (arith, all, fewer) in
    (search rules, tt)

pub few_left_of_properties-few_left-left-requires :
    goal.few_left_of_properties-few_left-left-requires
few_left_of_properties-few_left-left-requires t c =
    let p = c.property-item.result in
    let all = property_count_at c.args.properties.now c.loop-property.property-index p c.loop-property-test.true c.property-item.is in
    let smaller : 2 * node_count (view p.value) < 2 * property_node_count (property_views c.args.properties.now) + 1 = omega (arith, all) in
    (search rules, tt)
