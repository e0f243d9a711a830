use Rattle.std.proofs.Common.{sym, subst}
use Rattle.spa_bodies.specs.Reading.{RefusesInput}
use Rattle.spa_typed_read.proofs.Placed.{without_count}
use Rattle.spa_bodies.proofs.Refusals.{refused_as}
use Rattle.spa_bodies.proofs.Steps.{only_value}
use Rattle.spa_typed_read.proofs.deserializer.PodDeserializer.deserialize_any_from.Goals as goal

pub returns-in-Ok-clause-one : goal.returns-in-Ok-clause-one
returns-in-Ok-clause-one c = only_value _ _ _ c.in-Ok.ensures.read.begins

pub returns-in-Err : goal.returns-in-Err
returns-in-Err c =
    let e = c.in-Err.refused in
    let r = subst (RefusesInput c.args.input.now) (sym c.error_at.ensures)
    (refused_as _ e.place e.why (without_count _ _ _ _ c.in-Err.ensures.refused)) in
    record { value = tt; one = tt; rest = tt; refused = r.refused; named = r.named; short_first = r.short_first; memory = r.memory }
