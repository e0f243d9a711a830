use Rattle.spa_read.proofs.Readings.{is_lenient}
use Rattle.spa_read.proofs.Counting.{one_front, leaf_at, leaf_read, short_front}
use Rattle.spa_read.proofs.value.read_either.Goals as goal

pub returns-in_default-clause-refused : goal.returns-in_default-clause-refused
returns-in_default-clause-refused g c = short_front (is_lenient g.row.LENIENT) _ _ _ c.requires c.in_default.ensures.short

pub returns-in-Ok-clause-read : goal.returns-in-Ok-clause-read
returns-in-Ok-clause-read g c =
    leaf_read (is_lenient g.row.LENIENT) _ _ _ _ _ _ _ c.in-Some.ensures.there (c.is_container.ensures.other c.if-is_container.false)
    c.in-Ok.ensures.its_type c.in-Ok.ensures.read c.requires c.in-Some.ensures.counted

pub returns-in-Err-clause-refused : goal.returns-in-Err-clause-refused
returns-in-Err-clause-refused g c =
    let other = c.is_container.ensures.other c.if-is_container.false in
    one_front (is_lenient g.row.LENIENT) _ _ _ _ _ c.requires c.in-Some.ensures.counted
    (leaf_at (is_lenient g.row.LENIENT) _ _ _ _ _ c.in-Some.ensures.there other.0 other.1 c.in-Err.ensures.refused)
