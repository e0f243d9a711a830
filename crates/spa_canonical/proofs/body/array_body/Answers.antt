use Rattle.spa_canonical.proofs.Leaves.{array_leaf, no_array_leaf}
use Rattle.spa_canonical.proofs.Words.{bytes_of}
use Rattle.spa_canonical.proofs.body.array_body.Goals as goal

pub returns-in-Ok-clause-there : goal.returns-in-Ok-clause-there
returns-in-Ok-clause-there c =
    array_leaf _ _ _ _ _ (bytes_of _ c.type_inv.body) c.if-body-lt-HEADER_LEN.false c.u32_at.ensures c.u32_at-2.ensures c.split_at.ensures.back c.in-Ok.ensures.there

pub returns-in-Err-clause-none : goal.returns-in-Err-clause-none
returns-in-Err-clause-none c =
    no_array_leaf _ _ _ _ _ _ c.if-body-lt-HEADER_LEN.false c.u32_at.ensures c.u32_at-2.ensures c.split_at.ensures.back c.in-Err.ensures.none
