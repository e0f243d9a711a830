use Rattle.std.proofs.Common.{refl, ◌∙◌, subst}
use Rattle.std.proofs.lemmas.Result.{err_from_is_err_and}
use Rattle.spa_bytes.specs.Opening.{Opens}
use Rattle.spa_format.specs.Kind.{type_number}
use Rattle.spa_typed_read.specs.Asking.{LacksFront, of_type}
use Rattle.spa_typed_read.proofs.Asking.{body_refused_as, front_refused}
use Rattle.spa_typed_read.proofs.Fronts.{fixed_read}
use Rattle.spa_typed_read.proofs.deserializer.PodDeserializer.fixed_pod.Goals as goal

pub returns-in_err-front-clause-refused : goal.returns-in_err-front-clause-refused
returns-in_err-front-clause-refused g c =
    let p = err_from_is_err_and c.from_residual.result c.from_residual.ensures.1 in
    let t = c.TYPE.ensures ∙ g.met.T.CanonicalFixedSizedPod.its_type in
    rw (p.1, p.2, ← c.self.view_is)
    (front_refused (of_type (type_number g.T.CanonicalFixedSizedPod.kind)) _ _ _
    (subst (λ n. LacksFront n c.self.inside.input.now c.in_err-front.field-0.0) t c.in_err-front.ensures.refused))

pub returns-in-Ok-clause-read : goal.returns-in-Ok-clause-read
returns-in-Ok-clause-read g c =
    let t = c.TYPE.ensures ∙ g.met.T.CanonicalFixedSizedPod.its_type in
    let k = g.met.T.CanonicalFixedSizedPod.its_kind c.in-Ok.value in
    rw (← c.self.view_is, c.after.ensures)
    (fixed_read _ _ _ _ _ _ c.in_ok-front.ensures.there t k c.in-Ok.ensures.read)

pub returns-in-Err-clause-refused : goal.returns-in-Err-clause-refused
returns-in-Err-clause-refused g c =
    let t = c.TYPE.ensures ∙ g.met.T.CanonicalFixedSizedPod.its_type in
    rw (c.error_at.ensures, ← c.self.view_is)
    (body_refused_as (of_type (type_number g.T.CanonicalFixedSizedPod.kind)) _ _ _ _ _ c.in-Err.why
    (subst (λ n. Opens c.self.inside.input.now n c.in_ok-front.front.body.now c.in_ok-front.front.rest.now) t c.in_ok-front.ensures.there)
    c.in-Err.ensures.refused (λ e. absurd (cc (e, c.in-Err.ensures.cause))) refl)
