use Rattle.spa_text_commands.proofs.Saying.{adds_may, ok_may}
use Rattle.spa_text_commands.proofs.listing.Listing.add_pod.Goals as goal

pub loop-preserved : goal.loop-preserved
loop-preserved c = adds_may _ _ _ c.loop.invariant c.in_ok-add_next.ensures

pub returns : goal.returns
returns c = ok_may c.add_refusal.result _ _ _ c.loop.invariant c.add_refusal.ensures
