use Rattle.std.proofs.Common.{refl, map}
use Rattle.spa_format.specs.Tree.{array, array_type}
use Rattle.spa_typed_read.specs.Asking.{array_of}
use Rattle.spa_typed_read.proofs.Asking.{body_refused_as}
use Rattle.spa_typed_read.proofs.Fronts.{read_as}
use Rattle.spa_bodies.proofs.Refusals.{array_refused}
use Rattle.spa_typed_read.proofs.deserializer.PodDeserializer.array_pod.Goals as goal

pub returns-in-Ok-clause-read : goal.returns-in-Ok-clause-read
returns-in-Ok-clause-read g c =
    let T = g.T.CanonicalFixedSizedPod in
    rw (← c.self.view_is, c.after.ensures)
    (read_as _ _ _ array_type (array T.kind (map T.fixed c.in-Ok.items.items)) c.in_ok-front.ensures.there refl c.in-Ok.ensures.read)

pub returns-in-Err-clause-refused : goal.returns-in-Err-clause-refused
returns-in-Err-clause-refused g c =
    let k = g.T.CanonicalFixedSizedPod.kind in
    rw (c.error_at.ensures, ← c.self.view_is)
    (body_refused_as (array_of k) _ _ _ _ _ c.in-Err.why c.in_ok-front.ensures.there
    (array_refused k _ c.in-Err.why c.in-Err.ensures.refused) (λ e. tt) refl)
