use Rattle.spa_text_read.proofs.Trailing.{none_open, one_taken}
use Rattle.spa_text_read.proofs.place.path_to.Goals as goal

pub loop-reader-init : goal.loop-reader-init
loop-reader-init c = none_open _ _ c.new-trail.ensures.items

pub loop-reader-preserved : goal.loop-reader-preserved
loop-reader-preserved c = one_taken _ _ _ _ c.loop-reader.trail.items c.take.new.trail.items c.loop-reader.invariant c.in-Some.ensures.value c.in_ok-take.ensures
