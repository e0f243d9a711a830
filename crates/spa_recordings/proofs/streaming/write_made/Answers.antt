use Rattle.std.proofs.Common.{◌≢◌, [], rules}
use Rattle.spa_recordings.proofs.Streamed.{all_begun}
use Rattle.spa_recordings.proofs.streaming.write_made.Goals as goal

pub returns-in-Err-clause-begun : goal.returns-in-Err-clause-begun
returns-in-Err-clause-begun g c =
    let some : c.args.made.now ≢ [] = search rules in
    all_begun c.args.made.now _ (g.W.Write.contents c.write.new.device) _ some c.in-Ok.ensures.taken c.flush.ensures.bytes
