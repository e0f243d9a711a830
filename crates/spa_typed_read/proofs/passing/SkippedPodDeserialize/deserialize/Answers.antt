use Rattle.spa_typed_read.proofs.Looked.{fault_refused}
use Rattle.spa_typed_read.proofs.passing.SkippedPodDeserialize.deserialize.Goals as goal

pub returns-in-Ok-clause-read : goal.returns-in-Ok-clause-read
returns-in-Ok-clause-read c =
    let pod = c.in-Ok.ensures.accepted.shorter in
    rw (← c.deserializer.view_is, c.after.ensures)
    (record { value = pod.value; begins = pod.begins.begins; follows = pod.begins.follows; holds = tt })

pub returns-in-Err-Fault-clause-refused : goal.returns-in-Err-Fault-clause-refused
returns-in-Err-Fault-clause-refused c =
    let says = rw c.in-Err-Fault.field-0-is at c.in-Err-Fault.ensures.rejected in
    rw (← c.deserializer.view_is, c.error_at.ensures) (fault_refused _ c.in-Err-Fault.place c.in-Err-Fault.why says.stands)
