use Rattle.std.proofs.Common.{refl, arith}
use Rattle.spav.proofs.Written.{list_written}
use Rattle.spav.proofs.Refusals.{list_refused}
use Rattle.spav.proofs.in_place.spav_rewrite_in_place.Goals as goal

pub returns-in-Ok-clause-done : goal.returns-in-Ok-clause-done
returns-in-Ok-clause-done c = λ _.
    let within = c.in-Ok.ensures.within in
    let same = c.rewrite_in_place.auto.bytes in
    list_written _ _ _ _ c.in-Ok.ensures.rewritten (omega arith)

pub returns-else-not-is_for_bytes-clause-refused : goal.returns-else-not-is_for_bytes-clause-refused
returns-else-not-is_for_bytes-clause-refused c = λ _. list_refused _ _ _ c.in-Err.ensures.refused (c.if-not-is_for_bytes.ensures.bytes refl)
