use Rattle.spa_typed_read.proofs.Stepping.{deep_further, failed_further_in, further_in_same, further_in_trans, properties_refused}
use Rattle.spa_typed_read.proofs.properties.ObjectPodDeserializer.skip_properties.Goals as goal

pub loop-value-init : goal.loop-value-init
loop-value-init c = record { further = further_in_same _; good = λ h. h }

pub loop-value-preserved : goal.loop-value-preserved
loop-value-preserved c =
    let taken = rw c.in-Ok-Some.field-0-is at c.in-Ok-Some.ensures.property in
    record {
      further = further_in_trans _ _ _ c.loop-value.invariant.further c.deserialize_property.ensures.same;
      good = λ h. taken.good;
    }

pub returns-in-Err-clause-stays : goal.returns-in-Err-clause-stays
returns-in-Err-clause-stays c = λ failed. c.in-Err.ensures.stays (failed_further_in _ _ c.loop-value.invariant.further failed)

pub returns-in-Err-clause-refused : goal.returns-in-Err-clause-refused
returns-in-Err-clause-refused c =
    let i = c.loop-value.invariant in
    λ good.
    properties_refused _ c.loop-value.self c.in-Err.e i.further (i.good good)
    (λ left. cc (c.in-Err.ensures.ends (record { good = i.good good; none_left = left })))
    (λ short. c.in-Err.ensures.short (i.good good) (λ left. cc (c.in-Err.ensures.ends (record { good = i.good good; none_left = left }))) short)
    (λ long. (c.in-Err.ensures.refused (i.good good) long).0)

pub returns-in-Err-clause-memory : goal.returns-in-Err-clause-memory
returns-in-Err-clause-memory c =
    let i = c.loop-value.invariant in
    λ good.
    deep_further _ c.loop-value.self c.in-Err.e i.further (i.good good)
    (λ short. c.in-Err.ensures.short (i.good good) (λ left. cc (c.in-Err.ensures.ends (record { good = i.good good; none_left = left }))) short)
    (λ long. (c.in-Err.ensures.refused (i.good good) long).1)
