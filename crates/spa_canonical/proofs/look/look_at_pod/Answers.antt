use Rattle.std.proofs.Common.{refl}
use Rattle.std.specs.Prelude.{false}
use Rattle.spa_canonical.proofs.LeafBodies.{never}
use Rattle.spa_canonical.proofs.look.look_at_pod.Goals as goal

pub returns-in-Ok-clause-accepted : goal.returns-in-Ok-clause-accepted
returns-in-Ok-clause-accepted c = record {
  shorter = c.in-Ok.ensures.accepted;
  exactly = (λ e. absurd (never false e refl), λ k. absurd (c.in-Stops.ensures.0 refl _ k));
}
