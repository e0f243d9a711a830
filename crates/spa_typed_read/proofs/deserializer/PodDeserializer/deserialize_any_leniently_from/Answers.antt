use Rattle.std.proofs.Common.{sym, subst}
use Rattle.spa_read.specs.Reading.{RefusesInput}
use Rattle.spa_read.proofs.Conveying.{conveys_pod, only_conveyed, refused_as}
use Rattle.spa_typed_read.proofs.deserializer.PodDeserializer.deserialize_any_leniently_from.Goals as goal

pub returns-in-Ok-clause-one : goal.returns-in-Ok-clause-one
returns-in-Ok-clause-one c = λ w h. only_conveyed _ _ w c.in-Ok.ensures.read.begins h

pub returns-in-Ok-clause-same : goal.returns-in-Ok-clause-same
returns-in-Ok-clause-same c = λ w h. only_conveyed _ _ w c.in-Ok.ensures.read.begins (conveys_pod _ w h)

pub returns-in-Err : goal.returns-in-Err
returns-in-Err c =
    let e = c.in-Err.fault in
    let r = subst (RefusesInput c.args.input.now) (sym c.error_at.ensures) (refused_as _ e.place e.why c.in-Err.ensures.refused) in
    record {
      value = tt;
      one = tt;
      same = tt;
      rest = tt;
      refused = r.refused;
      named = r.named;
      short_first = r.short_first;
      memory = r.memory;
    }
