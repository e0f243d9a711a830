use Rattle.std.proofs.Common.{◌+◌, ◌*◌, ◌<◌, arith, length, refl, rules}
use Rattle.spa_bytes.proofs.Passing.{passed_on}
use Rattle.spa_format.specs.Encoding.{encoding_of, member_encodings, property_encodings}
use Rattle.spa_value.specs.declared.object.Object.{out-Object}
use Rattle.spa_value.specs.View.{view}
use Rattle.spa_value.specs.Views.{views, property_views}
use Rattle.spa_write.proofs.LoneStructs.{lone_length, one_within, within_too_long}
use Rattle.spa_write.proofs.MemberLists.{measured_next, measured_none, member_unwritable, members_length, members_too_long, struct_measured, struct_unwritable, struct_of}
use Rattle.spa_write.proofs.PropertyLists.{object_measured, object_too_long, object_unwritable, properties_measured_next, properties_length, properties_measured_none, properties_too_long, property_unwritable, object_of}
use Rattle.spa_write.proofs.Shorts.{short_measured}
use Rattle.spa_write.proofs.Stopping.{size_of_object, size_of_struct}
use Rattle.spa_write.proofs.size.+size.Goals as goal

pub encoded_len-members_len-requires : goal.encoded_len-members_len-requires
encoded_len-members_len-requires t c =
    let v = view c.args.value.now in
    let vs = views c.as_slice.result.now in
    let is = struct_of c.in-Struct.members c.in-Struct.is c.as_slice.ensures.value in
    let whole = size_of_struct v vs (length (encoding_of v)) is refl in
    let smaller : 3 * length (member_encodings vs) + 2 < 3 * length (encoding_of v) = omega (arith, whole) in
    (search rules, tt)

pub encoded_len-properties_len-requires : goal.encoded_len-properties_len-requires
encoded_len-properties_len-requires t c =
    let o = out-Object c.in-Object.object in
    let v = view c.args.value.now in
    let ps = property_views c.as_slice-in-Object.result.now in
    let is = object_of c.in-Object.object c.in-Object.is c.as_slice-in-Object.ensures.value in
    let whole = size_of_object v o.type_ o.id ps (length (encoding_of v)) is refl in
    let smaller : 3 * length (property_encodings ps) + 1 < 3 * length (encoding_of v) = omega (arith, whole) in
    (search rules, tt)

pub all_len-encoded_len-requires : goal.all_len-encoded_len-requires
all_len-encoded_len-requires t c =
    let v = c.member-item.result in
    let all = members_length c.args.members.now c.loop-member.member-index v c.loop-member-test.true c.member-item.is in
    let smaller : 3 * length (encoding_of (view v)) < 3 * length (member_encodings (views c.args.members.now)) + 1 = omega (arith, all) in
    (search rules, tt)

pub properties_len-encoded_len-requires : goal.properties_len-encoded_len-requires
properties_len-encoded_len-requires t c =
    let p = c.property-item.result in
    let all = properties_length c.args.properties.now c.loop-property.property-index p c.loop-property-test.true c.property-item.is in
    let smaller : 3 * length (encoding_of (view p.value)) < 3 * length (property_encodings (property_views c.args.properties.now)) + 1 = omega (arith, all) in
    (search rules, tt)

pub encoded_len-returns-in_err-members_len-in-Struct-clause-cause :
    goal.encoded_len-returns-in_err-members_len-in-Struct-clause-cause
encoded_len-returns-in_err-members_len-in-Struct-clause-cause t c =
    let is = struct_of c.in-Struct.members c.in-Struct.is c.as_slice.ensures.value in
    passed_on _ _ _ c.from_residual.ensures.1
    (struct_unwritable (view c.args.value.now) (views c.as_slice.result.now) is _ c.in_err-members_len-in-Struct.ensures.cause)

pub encoded_len-returns-in_ok-members_len-in-Struct-clause-measured :
    goal.encoded_len-returns-in_ok-members_len-in-Struct-clause-measured
encoded_len-returns-in_ok-members_len-in-Struct-clause-measured t c =
    let is = struct_of c.in-Struct.members c.in-Struct.is c.as_slice.ensures.value in
    struct_measured (view c.args.value.now) (views c.as_slice.result.now) _ is c.in_ok-members_len-in-Struct.ensures.measured

pub encoded_len-returns-in_err-len-in-Object-clause-cause : goal.encoded_len-returns-in_err-len-in-Object-clause-cause
encoded_len-returns-in_err-len-in-Object-clause-cause t c =
    let o = out-Object c.in-Object.object in
    let is = object_of c.in-Object.object c.in-Object.is c.as_slice-in-Object.ensures.value in
    passed_on _ _ _ c.from_residual-in_err-len-in-Object.ensures.1
    (object_unwritable (view c.args.value.now) o.type_ o.id (property_views c.as_slice-in-Object.result.now) is _ c.in_err-len-in-Object.ensures.cause)

pub encoded_len-returns-in_err-sum_of-in-Object-clause-cause : goal.encoded_len-returns-in_err-sum_of-in-Object-clause-cause
encoded_len-returns-in_err-sum_of-in-Object-clause-cause t c =
    let o = out-Object c.in-Object.object in
    let is = object_of c.in-Object.object c.in-Object.is c.as_slice-in-Object.ensures.value in
    passed_on _ _ _ c.from_residual-in_err-sum_of-in-Object.ensures.1
    (object_too_long (view c.args.value.now) o.type_ o.id (property_views c.as_slice-in-Object.result.now) c.in_ok-len-in-Object.len is
    c.in_ok-len-in-Object.ensures.measured _ c.in_err-sum_of-in-Object.ensures.long)

pub encoded_len-returns-in_ok-sum_of-in-Object-clause-measured : goal.encoded_len-returns-in_ok-sum_of-in-Object-clause-measured
encoded_len-returns-in_ok-sum_of-in-Object-clause-measured t c =
    let o = out-Object c.in-Object.object in
    let is = object_of c.in-Object.object c.in-Object.is c.as_slice-in-Object.ensures.value in
    object_measured (view c.args.value.now) o.type_ o.id (property_views c.as_slice-in-Object.result.now) c.in_ok-len-in-Object.len _ is
    c.in_ok-len-in-Object.ensures.measured c.in_ok-sum_of-in-Object.ensures.sum c.in_ok-sum_of-in-Object.ensures.short

pub all_len-loop-member-init : goal.all_len-loop-member-init
all_len-loop-member-init t c = measured_none

pub all_len-loop-member-preserved : goal.all_len-loop-member-preserved
all_len-loop-member-preserved t c =
    measured_next c.args.members.now c.loop-member.member-index c.member-item.result c.loop-member.total c.in_ok-len.len _
    c.loop-member-test.true c.member-item.is c.loop-member.invariant c.in_ok-len.ensures.measured
    c.in_ok-total.ensures.sum c.in_ok-total.ensures.short

pub all_len-returns-in_err-len-clause-cause : goal.all_len-returns-in_err-len-clause-cause
all_len-returns-in_err-len-clause-cause t c =
    passed_on _ _ _ c.from_residual.ensures.1
    (member_unwritable c.args.members.now c.loop-member.member-index c.member-item.result c.loop-member-test.true c.member-item.is
    _ c.in_err-len.ensures.cause)

pub all_len-returns-in_err-total-clause-cause : goal.all_len-returns-in_err-total-clause-cause
all_len-returns-in_err-total-clause-cause t c =
    passed_on _ _ _ c.from_residual-in_err-total.ensures.1
    (members_too_long c.args.members.now c.loop-member.member-index c.member-item.result c.loop-member.total c.in_ok-len.len
    c.loop-member-test.true c.member-item.is c.loop-member.invariant c.in_ok-len.ensures.measured _ c.in_err-total.ensures.long)

pub all_len-returns-then-are_short-clause-measured : goal.all_len-returns-then-are_short-clause-measured
all_len-returns-then-are_short-clause-measured t c =
    let few = c.if-members-lt-SHORT_LIMIT.true in
    short_measured c.args.members.now (c.are_short.ensures c.if-are_short.true) (omega (arith, few))

pub properties_len-loop-property-init : goal.properties_len-loop-property-init
properties_len-loop-property-init t c = properties_measured_none

pub properties_len-loop-property-preserved : goal.properties_len-loop-property-preserved
properties_len-loop-property-preserved t c =
    properties_measured_next c.args.properties.now c.loop-property.property-index c.property-item.result c.loop-property.total
    c.in_ok-len.len _ c.loop-property-test.true c.property-item.is c.loop-property.invariant c.in_ok-len.ensures.measured
    c.in_ok-total.ensures.sum c.in_ok-total.ensures.short

pub properties_len-returns-in_err-len-clause-cause : goal.properties_len-returns-in_err-len-clause-cause
properties_len-returns-in_err-len-clause-cause t c =
    passed_on _ _ _ c.from_residual.ensures.1
    (property_unwritable c.args.properties.now c.loop-property.property-index c.property-item.result c.loop-property-test.true
    c.property-item.is _ c.in_err-len.ensures.cause)

pub properties_len-returns-in_err-total-clause-cause : goal.properties_len-returns-in_err-total-clause-cause
properties_len-returns-in_err-total-clause-cause t c =
    let size = c.in_ok-len.ensures.measured.size in
    passed_on _ _ _ c.from_residual-in_err-total.ensures.1
    (properties_too_long c.args.properties.now c.loop-property.property-index c.property-item.result c.loop-property.total
    (c.loop-property.total + 8 + c.in_ok-len.len) c.loop-property-test.true c.property-item.is c.loop-property.invariant
    (omega (arith, size)) _ c.in_err-total.ensures.long)

pub members_len-loop-inner-preserved : goal.members_len-loop-inner-preserved
members_len-loop-inner-preserved t c =
    one_within (views c.args.members.now) (views c.loop-inner.left.now) (views c.in-Some.inner.now) c.loop-inner.outer c.in_ok-outer.outer
    c.loop-inner.invariant c.in-Some.ensures c.in_ok-outer.ensures.sum

pub members_len-loop-inner-smaller : goal.members_len-loop-inner-smaller
members_len-loop-inner-smaller t c =
    let whole = lone_length (views c.loop-inner.left.now) (views c.in-Some.inner.now) c.in-Some.ensures in
    let smaller : length (member_encodings (views c.in-Some.inner.now)) < length (member_encodings (views c.loop-inner.left.now)) = omega (arith, whole) in
    smaller

pub members_len-returns-in_err-outer-clause-cause : goal.members_len-returns-in_err-outer-clause-cause
members_len-returns-in_err-outer-clause-cause t c =
    let whole = lone_length (views c.loop-inner.left.now) (views c.in-Some.inner.now) c.in-Some.ensures in
    passed_on _ _ _ c.from_residual.ensures.1
    (within_too_long (views c.args.members.now) (views c.loop-inner.left.now) c.loop-inner.outer (c.loop-inner.outer + 8)
    c.loop-inner.invariant (omega (arith, whole)) _ c.in_err-outer.ensures.long)
