use Rattle.std.proofs.Common.{refl, arith, length}
use Rattle.spa_format.specs.Tree.{bitmap}
use Rattle.spa_write.proofs.Measuring.{pod_measured}
use Rattle.spa_write.proofs.size.bitmap_len.Goals as goal

pub returns-clause-measured : goal.returns-clause-measured
returns-clause-measured c =
    pod_measured _ (length c.args.bytes.now) (bitmap c.args.bytes.now) refl (λ n. n)
    (λ short large. omega (arith, short, large)) c.encoded_pod_len.ensures.extent c.encoded_pod_len.ensures.short
