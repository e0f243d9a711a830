use Rattle.std.proofs.Common.{refl}
use Rattle.std.proofs.lemmas.Result.{err_from_is_err_and}
use Rattle.spa_format.specs.Tree.{bytes, bytes_type}
use Rattle.spa_typed_read.specs.Asking.{of_type}
use Rattle.spa_typed_read.proofs.Asking.{front_refused}
use Rattle.spa_typed_read.proofs.Fronts.{read_as}
use Rattle.spa_typed_read.proofs.deserializer.PodDeserializer.bytes_pod.Goals as goal

pub returns-in_err-front-clause-refused : goal.returns-in_err-front-clause-refused
returns-in_err-front-clause-refused c =
    let p = err_from_is_err_and c.from_residual.result c.from_residual.ensures.1 in
    rw (p.1, p.2) (front_refused (of_type bytes_type) _ _ _ (rw (← c.self.view_is) c.in_err-front.ensures.refused))

pub returns-clause-read : goal.returns-clause-read
returns-clause-read c =
    rw (← c.self.view_is, c.after.ensures)
    (read_as _ _ _ bytes_type (bytes c.in_ok-front.front.body.now) c.in_ok-front.ensures.there refl refl)
