use Rattle.std.proofs.Common.{refl}
use Rattle.spa_pod_commands.proofs.Fixating.{short_turn}
use Rattle.spa_pod_commands.proofs.pods.first_short.Goals as goal

pub loop-extent-preserved : goal.loop-extent-preserved
loop-extent-preserved c =
    short_turn c.args.bytes.now c.loop-extent.left.now c.in-Some.extent c.in-Some.ensures.there c.in-Some.ensures.extent c.loop-extent.invariant.0
    c.loop-extent.invariant.1 _ refl
