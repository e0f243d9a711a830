use Rattle.std.proofs.Common.{[], length, ap, arith, subst}
use Rattle.spa_rewrite.specs.Refusals as exact
use Rattle.spa_lenient.proofs.InPlace.{exactly_all, lacks_memory_at}
use Rattle.spa_lenient.proofs.in_place.rewrite_in_place_leniently.Goals as goal

pub returns-in-Ok-clause-rewritten : goal.returns-in-Ok-clause-rewritten
returns-in-Ok-clause-rewritten c = exactly_all _ [] _ c.in-Ok.ensures.rewritten

pub returns-in-Err-default-OutOfMemory-clause-refused :
    goal.returns-in-Err-default-OutOfMemory-clause-refused
returns-in-Err-default-OutOfMemory-clause-refused c =
    let r = c.in-Err-default-OutOfMemory in
    lacks_memory_at _ r.at (subst (exact.RefusesListAt c.args.bytes.now r.at) r.field-0-1-is r.ensures.refused)

pub put_first-requires : goal.put_first-requires
put_first-requires c =
    let within = c.in_default.ensures.within in
    let put = ap length c.as_slice.ensures.value in
    let none = ap length c.new-rewritten.ensures.items in
    omega arith
