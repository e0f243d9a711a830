use Rattle.std.proofs.Common.{sym, subst}
use Rattle.spa_format.specs.Opened.{OpensHeaders}
use Rattle.spa_bodies.specs.Reading.{OnFault, RefusesInput}
use Rattle.spa_typed_read.proofs.Placed.{opened_as, without_count}
use Rattle.spa_bodies.proofs.Refusals.{refused_as}
use Rattle.spa_bodies.proofs.Steps.{only_value}
use Rattle.spa_typed_read.proofs.deserializer.PodDeserializer.deserialize_any_counted.Goals as goal

pub returns-in-Ok-clause-one : goal.returns-in-Ok-clause-one
returns-in-Ok-clause-one c = only_value _ _ _ c.in-Ok.ensures.read.begins

pub returns-in-Err-clause-refused : goal.returns-in-Err-clause-refused
returns-in-Err-clause-refused c =
    let e = c.in-Err.refused in
    subst (RefusesInput c.args.input.now) (sym c.error_at.ensures)
    (refused_as _ e.place e.why (without_count _ _ _ _ c.in-Err.ensures.refused))

pub returns-in-Err-clause-opened : goal.returns-in-Err-clause-opened
returns-in-Err-clause-opened c =
    let e = c.in-Err.refused in
    subst (OnFault (OpensHeaders c.args.input.now c.read_value.new.opened)) (sym c.error_at.ensures)
    (opened_as _ e.place _ e.why c.in-Err.ensures.refused)
