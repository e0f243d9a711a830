use Rattle.std.proofs.Common.{refl}
use Rattle.std.proofs.lemmas.Result.{err_from_is_err_and}
use Rattle.spa_typed_read.specs.Asking.{of_type}
use Rattle.spa_typed_read.specs.Visiting.{declined, unread}
use Rattle.spa_typed_read.proofs.Asking.{body_refused_as, front_refused}
use Rattle.spa_bodies.proofs.Steps.{pod_read}
use Rattle.spa_typed_read.proofs.deserializer.PodDeserializer.deserialize_as.Goals as goal

pub returns-in_err-front-clause-refused : goal.returns-in_err-front-clause-refused
returns-in_err-front-clause-refused g c =
    let p = err_from_is_err_and c.from_residual.result c.from_residual.ensures.1 in
    rw (p.1, p.2)
    (unread (front_refused (of_type c.args.type_) _ _ _ (rw (← c.self.view_is) c.in_err-front.ensures.refused)))

pub returns-in-Err-clause-refused : goal.returns-in-Err-clause-refused
returns-in-Err-clause-refused g c =
    rw (c.error_at.ensures, ← c.self.view_is)
    (unread
    (body_refused_as (of_type c.args.type_) _ _ _ _ _ c.in-Err.why c.in_ok-front.ensures.there c.in-Err.ensures.refused
    c.in-Err.ensures.memory refl))

pub returns-in_err-value-clause-refused : goal.returns-in_err-value-clause-refused
returns-in_err-value-clause-refused g c =
    let p = err_from_is_err_and c.from_residual-in_err-value.result c.from_residual-in_err-value.ensures.1 in
    let body = c.in-Ok.ensures.read in
    let read = pod_read _ _ _ _ body.value c.in_ok-front.ensures.there body.its_type body.read in
    rw (p.1, p.2, ← c.self.view_is)
    (declined c.in-Ok.given
    (record { value = body.value; begins = read.begins; its_type = body.its_type; says = body.says })
    c.in_err-value.ensures.declined)

pub returns-clause-read : goal.returns-clause-read
returns-clause-read g c =
    let body = c.in-Ok.ensures.read in
    let read = pod_read _ _ _ _ body.value c.in_ok-front.ensures.there body.its_type body.read in
    rw (← c.self.view_is, c.after.ensures)
    (record {
      given = c.in-Ok.given;
      handed = record { value = body.value; begins = read.begins; its_type = body.its_type; says = body.says };
      follows = read.follows;
      made = c.in_ok-value.ensures.made;
    })
