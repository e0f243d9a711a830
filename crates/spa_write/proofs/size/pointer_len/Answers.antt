use Rattle.std.proofs.Common.{refl}
use Rattle.spa_write.proofs.Measuring.{pointer_measured}
use Rattle.spa_write.proofs.size.pointer_len.Goals as goal

pub returns-clause-measured : goal.returns-clause-measured
returns-clause-measured c = pointer_measured c.args.type_ c.args.address 24 refl
