use Rattle.std.proofs.Common.{ap, arith, refl}
use Rattle.spa_canonical.specs.Depth.{depth_of}
use Rattle.spa_value.specs.declared.object.Object.{out-Object}
use Rattle.spa_write.proofs.Levels.{depth_at, property_depth_at}
use Rattle.spa_write.proofs.PropertyLists.{object_of}
use Rattle.spa_write.proofs.MemberLists.{struct_of}
use Rattle.spa_write.proofs.count.+levels.Goals as goal

pub nests_within-returns-then-levels-ne0 : goal.nests_within-returns-then-levels-ne0
nests_within-returns-then-levels-ne0 t c = λ deep.
    let is = struct_of c.in-Struct.members c.in-Struct.is c.as_slice.ensures.value in
    let whole = ap depth_of is in
    let inside = c.members_nest_within.ensures deep in
    omega (arith, whole, inside)

pub nests_within-returns-then-levels-ne0-2 : goal.nests_within-returns-then-levels-ne0-2
nests_within-returns-then-levels-ne0-2 t c = λ deep.
    let o = out-Object c.in-Object.object in
    let is = object_of c.in-Object.object c.in-Object.is c.as_slice-then-levels-ne0-2.ensures.value in
    let whole = ap depth_of is in
    let inside = c.properties_nest_within.ensures deep in
    omega (arith, whole, inside)

pub nests_within-returns-else-levels-ne0-2 : goal.nests_within-returns-else-levels-ne0-2
nests_within-returns-else-levels-ne0-2 t c = λ deep.
    let whole = ap depth_of (object_of c.in-Object.object c.in-Object.is refl) in
    omega (arith, whole, c.if-levels-ne0-2.false)

pub members_nest_within-returns-then-not-nests_within : goal.members_nest_within-returns-then-not-nests_within
members_nest_within-returns-then-not-nests_within t c = λ deep.
    let v = c.member-item.result in
    let one = depth_at c.innermost-member-items.result.now c.loop-member.member-index v c.loop-member-test.true c.member-item.is in
    let all = c.innermost-member-items.ensures.depth in
    let own = c.nests_within.ensures c.if-not-nests_within.true in
    omega (arith, one, all, own)

pub properties_nest_within-returns-then-not-nests_within : goal.properties_nest_within-returns-then-not-nests_within
properties_nest_within-returns-then-not-nests_within t c = λ deep.
    let p = c.property-item.result in
    let one = property_depth_at c.args.properties.now c.loop-property.property-index p c.loop-property-test.true c.property-item.is in
    let own = c.nests_within.ensures c.if-not-nests_within.true in
    omega (arith, one, own)
