use Rattle.std.proofs.lemmas.Result.{err_from_is_err_and}
use Rattle.libspa.specs.Front.{IsRefused}
use Rattle.libspa.specs.View.{view}
use Rattle.libspa.specs.ExactlyLaws.{fault_to}
use Rattle.example_types.specs.Control.{BeginsNoControl, IsNoControl}
use Rattle.example_types.proofs.Controls.{front_refused}
use Rattle.example_types.proofs.control.ControlPodDeserialize.deserialize.Goals as goal

-- what no pod begins with is no control
pub returns-in_err-value-clause-refused : goal.returns-in_err-value-clause-refused
returns-in_err-value-clause-refused c =
    let input = c.args.deserializer in
    let p = err_from_is_err_and c.from_residual.result c.from_residual.ensures.1 in
    rw (p.1, p.2)
    (fault_to (IsRefused input) (BeginsNoControl input) c.in_err-value.field-0.0 (λ n v g k r. n v g)
    c.in_err-value.ensures.refused.refused)

-- the one value of the front is no control
pub returns-in-Err-clause-refused : goal.returns-in-Err-clause-refused
returns-in-Err-clause-refused c =
    fault_to (IsNoControl (view c.in_ok-value.value)) (BeginsNoControl c.args.deserializer) c.in-Err.e
    (front_refused _ _ c.in_ok-value.ensures.one) c.in-Err.ensures.refused
