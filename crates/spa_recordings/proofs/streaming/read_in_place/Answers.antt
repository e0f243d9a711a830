use Rattle.std.proofs.Common.{arith, length-take, subst, sym, take}
use Rattle.spa_recordings.specs.Streaming.{AreRead}
use Rattle.spa_recordings.specs.declared.reading.Reading.TheVariants.{Lenient}
use Rattle.spa_recordings.proofs.Streamed.{are_read}
use Rattle.spa_recordings.proofs.streaming.read_in_place.Goals as goal

pub returns-in-Ok-clause-read : goal.returns-in-Ok-clause-read
returns-in-Ok-clause-read c =
    let within = c.in-Ok.ensures.within in
    let t = length-take c.in-Ok.len c.rewrite_in_place_leniently.new.bytes in
    subst (λ z. AreRead z c.args.block.now (take c.in-Ok.len c.rewrite_in_place_leniently.new.bytes)) (sym c.in-Lenient.is)
    (are_read Lenient c.args.block.now _ c.are_bytes.ensures (omega (arith, within, t)) c.in-Ok.ensures.rewritten)
