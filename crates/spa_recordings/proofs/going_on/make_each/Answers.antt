use Rattle.spa_recordings.proofs.Going.{begins, finished, goes_further}
use Rattle.spa_recordings.proofs.going_on.make_each.Goals as goal

pub loop-behind-init : goal.loop-behind-init
loop-behind-init g c = begins _ _ _ _ _ _ _

pub loop-behind-preserved : goal.loop-behind-preserved
loop-behind-preserved g c =
    goes_further _ _ _ _ _ _ _ c.loop-behind.at c.in-Some.behind.at c.loop-behind.left.now c.in-Some.behind.rest.now _ _ _ _
    (rw c.in-Some.is at c.in_ok-behind.ensures.next) c.loop-behind.invariant

pub returns-in-None : goal.returns-in-None
returns-in-None g c =
    finished _ _ _ _ _ _ _ c.loop-behind.at c.loop-behind.left.now _ _ _ _ c.loop-behind.invariant (rw c.in-None.is at c.in_ok-behind.ensures.last)
