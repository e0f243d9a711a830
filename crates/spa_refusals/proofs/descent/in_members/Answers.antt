use Rattle.std.proofs.Common.{◌≡◌, ◌<◌, ◌^◌, ◌++◌, arith, length, rules}
use Rattle.std.specs.Prelude.{string_bytes}
use Rattle.spa_recordings.proofs.Holding.{walk_few}
use Rattle.spa_refusals.specs.Paths.{member_step}
use Rattle.spa_refusals.proofs.Descending.{behind_member, in_first_member, some_members}
use Rattle.spa_refusals.proofs.Passing.{member_found, none_passed, one_passed}
use Rattle.spa_refusals.proofs.descent.in_members.Goals as goal

pub loop-rest-init : goal.loop-rest-init
loop-rest-init c = (none_passed c.args.members.now, c.requires, omega arith)

pub loop-rest-preserved : goal.loop-rest-preserved
loop-rest-preserved c =
    let so = c.loop-rest.invariant in
    let b = c.in-Some.ensures.behind in
    let p = behind_member c.args.fault.place.now c.args.fault.why _ _ _ _ b so.1 in
    let o = b.offset in
    let w = so.2 in
    (one_passed _ _ _ _ p.0.0 so.0 p.0.1 b.follows, p.1, omega (arith, o, w))

pub returns-clause-step : goal.returns-clause-step
returns-clause-step c =
    let so = c.loop-rest.invariant in
    let step : string_bytes c.write.new.self ≡ string_bytes c.args.path.now ++ member_step c.loop-rest.count = search rules in
    member_found _ _ _ _ _ so.0 (some_members c.args.fault.place.now c.args.fault.why _ _ so.1) step

pub returns-clause-fault : goal.returns-clause-fault
returns-clause-fault c =
    in_first_member c.args.fault.place.now c.args.fault.why _ _ c.in_default.ensures.within c.loop-rest.invariant.1

pub overflow_add-count : goal.overflow_add-count
overflow_add-count c =
    let f = walk_few _ _ _ c.loop-rest.invariant.0.counted in
    let l : length c.args.members.now < 2 ^ 64 = search rules in
    omega (arith, f, l)
