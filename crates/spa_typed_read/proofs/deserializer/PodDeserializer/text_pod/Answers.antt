use Rattle.std.proofs.Common.{refl}
use Rattle.std.proofs.lemmas.Result.{err_from_is_err_and}
use Rattle.spa_fixed_sized.specs.declared.fault.Refusal.TheVariants as refusal
use Rattle.spa_format.specs.Tree.{string, string_type}
use Rattle.spa_typed_read.specs.Asking.{of_type}
use Rattle.spa_typed_read.proofs.Asking.{body_refused_as, front_refused}
use Rattle.spa_typed_read.proofs.Fronts.{read_as}
use Rattle.spa_typed_read.proofs.deserializer.PodDeserializer.text_pod.Goals as goal

pub returns-in_err-front-clause-refused : goal.returns-in_err-front-clause-refused
returns-in_err-front-clause-refused c =
    let p = err_from_is_err_and c.from_residual.result c.from_residual.ensures.1 in
    rw (p.1, p.2) (front_refused (of_type string_type) _ _ _ (rw (← c.self.view_is) c.in_err-front.ensures.refused))

pub returns-in-Some-clause-read : goal.returns-in-Some-clause-read
returns-in-Some-clause-read c =
    rw (← c.self.view_is, c.after.ensures)
    (read_as _ _ _ string_type (string c.in-Some.text.now) c.in_ok-front.ensures.there refl c.in-Some.ensures.some)

pub returns-in-None-clause-refused : goal.returns-in-None-clause-refused
returns-in-None-clause-refused c =
    rw (c.error_at.ensures, ← c.self.view_is)
    (body_refused_as (of_type string_type) _ _ _ _ _ refusal.Text c.in_ok-front.ensures.there (refl, c.in-None.ensures.none)
    (λ e. absurd (cc e)) refl)
