use Rattle.spa_fixed_sized.proofs.ArrayWriting.{length-array_body}
use Rattle.spa_fixed_sized.proofs.sizes.array_size.Goals as goal

pub returns-clause-some : goal.returns-clause-some
returns-clause-some g c =
    let met = g.met.T.CanonicalFixedSizedPod in
    let l =
    length-array_body g.T.CanonicalFixedSizedPod.kind g.T.CanonicalFixedSizedPod.fixed
    g.T.CanonicalFixedSizedPod.SIZE c.args.values.now met.its_kind met.its_size in
    rw l c.body_len.ensures.some

pub returns-clause-none : goal.returns-clause-none
returns-clause-none g c =
    let met = g.met.T.CanonicalFixedSizedPod in
    let l =
    length-array_body g.T.CanonicalFixedSizedPod.kind g.T.CanonicalFixedSizedPod.fixed
    g.T.CanonicalFixedSizedPod.SIZE c.args.values.now met.its_kind met.its_size in
    rw l c.body_len.ensures.none
