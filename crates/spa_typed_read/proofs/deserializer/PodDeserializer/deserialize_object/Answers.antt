use Rattle.std.proofs.lemmas.Result.{err_from_is_err_and}
use Rattle.spa_typed_read.specs.Visiting.{declined_object, no_object}
use Rattle.spa_typed_read.proofs.Fronts.{object_read, object_unended}
use Rattle.spa_typed_read.proofs.deserializer.PodDeserializer.deserialize_object.Goals as goal

pub returns-in_err-reader-clause-refused : goal.returns-in_err-reader-clause-refused
returns-in_err-reader-clause-refused g c =
    let p = err_from_is_err_and c.from_residual.result c.from_residual.ensures.1 in
    rw (p.1, p.2) (no_object c.in_err-reader.ensures.refused)

pub returns-in_err-value-clause-refused : goal.returns-in_err-value-clause-refused
returns-in_err-value-clause-refused g c =
    let p = err_from_is_err_and c.from_residual-in_err-value.result c.from_residual-in_err-value.ensures.1 in
    rw (p.1, p.2)
    (declined_object _ _ c.in_ok-reader.ensures.opens c.in_err-value.ensures.same c.in_err-value.ensures.declined)

pub returns-in_err-success-clause-refused : goal.returns-in_err-success-clause-refused
returns-in_err-success-clause-refused g c =
    let p = err_from_is_err_and c.from_residual-in_err-success.result c.from_residual-in_err-success.ensures.1 in
    rw (p.1, p.2)
    (object_unended _ _ _ _ _ _ c.in_ok-reader.ensures.opens c.in_ok-value.ensures.same c.in_ok-value.ensures.left
    c.in_err-success.ensures.refused)

pub returns-clause-read : goal.returns-clause-read
returns-clause-read g c =
    let ended = c.in_ok-success.ensures.ok in
    object_read _ _ _ _ (λ t i ps. g.V.Visitor.visits_object c.args.visitor t i ps c.in_ok-value.value)
    c.in_ok-reader.ensures.opens c.in_ok-value.ensures.same ended.1 ended.0 (c.in_ok-value.ensures.made ended.1)
