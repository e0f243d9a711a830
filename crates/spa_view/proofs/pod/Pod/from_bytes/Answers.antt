use Rattle.std.proofs.Common.{arith}
use Rattle.spa_format.proofs.WalkLemmas.{length-take_extent}
use Rattle.spa_view.proofs.pod.Pod.from_bytes.Goals as goal

pub invariant_of-result : goal.invariant_of-result
invariant_of-result c =
    let e = c.extent_of-extent.ensures.extent in
    let h = length-take_extent 0 c.extent_of-extent.result c.args.bytes.now (omega arith) c.if-bytes-extent.false in
    record { whole = omega arith }
