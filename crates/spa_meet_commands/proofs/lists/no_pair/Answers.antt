use Rattle.std.proofs.Common.{refl}
use Rattle.spa_meet_commands.proofs.Seeking.{one_apart}
use Rattle.spa_meet_commands.proofs.lists.no_pair.Goals as goal

-- src/lists.rt:46:18
pub unreachable-requires : goal.unreachable-requires
unreachable-requires c = one_apart _ _ c.requires (c.if-not-is_one_pod.ensures.one refl).1 (c.if-not-is_one_pod-2.ensures.one refl).1 c.in-Ok.ensures.accepted
