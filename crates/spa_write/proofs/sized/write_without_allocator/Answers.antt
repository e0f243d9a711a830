use Rattle.std.proofs.Common.{◌<◌, ap, arith}
use Rattle.std.proofs.lemmas.Result.{IfErr-weaker}
use Rattle.spa_canonical.specs.Depth.{depth_of}
use Rattle.spa_value.specs.declared.object.Object.{out-Object}
use Rattle.spa_value.specs.View.{view}
use Rattle.spa_write.specs.DeepValues.{levels_without_memory}
use Rattle.spa_write.proofs.Made.{deep_refused}
use Rattle.spa_write.proofs.PropertyLists.{object_of}
use Rattle.spa_write.proofs.MemberLists.{struct_of}
use Rattle.spa_write.proofs.sized.write_without_allocator.Goals as goal

pub returns-then-not-members_nest_within-clause-refused :
    goal.returns-then-not-members_nest_within-clause-refused
returns-then-not-members_nest_within-clause-refused g c =
    let is = struct_of c.in-Struct.members c.in-Struct.is c.as_slice.ensures.value in
    let inside = c.members_nest_within.ensures c.if-not-members_nest_within.true in
    let deep : levels_without_memory < depth_of (view c.args.value.now) = omega (arith, ap depth_of is, inside) in
    IfErr-weaker c.write_value.result _ _
    (λ e r. deep_refused c.args.sink.now c.write_value.new.sink (depth_of (view c.args.value.now)) deep e r)
    c.write_value.ensures.refused

pub returns-then-not-properties_nest_within-clause-refused :
    goal.returns-then-not-properties_nest_within-clause-refused
returns-then-not-properties_nest_within-clause-refused g c =
    let o = out-Object c.in-Object.object in
    let is = object_of c.in-Object.object c.in-Object.is c.as_slice-in-Object.ensures.value in
    let inside = c.properties_nest_within.ensures c.if-not-properties_nest_within.true in
    let deep : levels_without_memory < depth_of (view c.args.value.now) = omega (arith, ap depth_of is, inside) in
    IfErr-weaker c.write_value-then-not-properties_nest_within.result _ _
    (λ e r. deep_refused c.args.sink.now c.write_value-then-not-properties_nest_within.new.sink (depth_of (view c.args.value.now)) deep e r)
    c.write_value-then-not-properties_nest_within.ensures.refused
