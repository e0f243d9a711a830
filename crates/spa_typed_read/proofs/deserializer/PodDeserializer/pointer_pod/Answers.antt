use Rattle.std.proofs.Common.{refl}
use Rattle.std.proofs.lemmas.Result.{err_from_is_err_and}
use Rattle.spa_format.specs.Tree.{pointer, pointer_type}
use Rattle.spa_typed_read.specs.Asking.{of_type}
use Rattle.spa_typed_read.proofs.Asking.{body_refused_as, front_refused}
use Rattle.spa_typed_read.proofs.Fronts.{read_as}
use Rattle.spa_typed_read.proofs.deserializer.PodDeserializer.pointer_pod.Goals as goal

pub returns-in_err-front-clause-refused : goal.returns-in_err-front-clause-refused
returns-in_err-front-clause-refused c =
    let p = err_from_is_err_and c.from_residual.result c.from_residual.ensures.1 in
    rw (p.1, p.2) (front_refused (of_type pointer_type) _ _ _ (rw (← c.self.view_is) c.in_err-front.ensures.refused))

pub returns-in-Ok-clause-read : goal.returns-in-Ok-clause-read
returns-in-Ok-clause-read c =
    rw (← c.self.view_is, c.after.ensures)
    (read_as _ _ _ pointer_type (pointer c.in-Ok.read.0 c.in-Ok.read.1) c.in_ok-front.ensures.there refl c.in-Ok.ensures.read)

pub returns-in-Err-clause-refused : goal.returns-in-Err-clause-refused
returns-in-Err-clause-refused c =
    rw (c.error_at.ensures, ← c.self.view_is)
    (body_refused_as (of_type pointer_type) _ _ _ _ _ c.in-Err.why c.in_ok-front.ensures.there c.in-Err.ensures.refused
    (λ e. absurd (cc (e, c.in-Err.ensures.cause))) refl)
