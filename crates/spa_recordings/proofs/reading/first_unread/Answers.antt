use Rattle.spa_recordings.proofs.Unreading.{not_accepted, unread_at}
use Rattle.spa_recordings.proofs.reading.first_unread.Goals as goal

pub returns-in_default-error : goal.returns-in_default-error
returns-in_default-error c = record {
  accepted = tt;
  unread = unread_at c.args.reading c.args.input.now c.in-Err.left.now c.in-Err.error c.kind.result.now c.in-Err.ensures.refused
      c.in_default-error.not-OutOfMemory c.kind.ensures;
  refused = not_accepted c.args.reading c.args.input.now c.in-Err.left.now c.in-Err.error c.in-Err.ensures.refused c.in_default-error.not-OutOfMemory;
}
