use Rattle.std.proofs.Common.{refl, sym, ap, ◌∙◌, subst}
use Rattle.spa_format.specs.Tree.{fixed}
use Rattle.spa_view.specs.Settled.{Says, settled_bytes}
use Rattle.spa_typed_read.specs.Exactly.{other_choice}
use Rattle.spa_typed_read.proofs.SettledReads.{choices_are_flat, fault_settled, says_settled, settled_says}
use Rattle.spa_typed_read.proofs.settled.SettledPodDeserialize.deserialize.Goals as goal

pub returns-in-Some-from_pod-clause-read : goal.returns-in-Some-from_pod-clause-read
returns-in-Some-from_pod-clause-read g c =
    let pod = c.in-Ok-look_at_pod.ensures.accepted.shorter in
    let bytes = c.settled.ensures.bytes ∙ ap settled_bytes c.in-Some.ensures.pod in
    let w = fixed (g.T.CanonicalFixedSizedPod.fixed c.in-Some-from_pod.value) in
    rw (← c.deserializer.view_is, c.after.ensures)
    (record {
      value = pod.value;
      begins = pod.begins.begins;
      follows = pod.begins.follows;
      holds = says_settled _ _ w pod.begins.begins (subst (Says w) bytes c.in-Some-from_pod.ensures.value);
    })

pub returns-in-Err-Fault-clause-refused : goal.returns-in-Err-Fault-clause-refused
returns-in-Err-Fault-clause-refused g c =
    let says = rw c.in-Err-Fault.field-0-is at c.in-Err-Fault.ensures.rejected in
    rw (← c.deserializer.view_is, c.error_at.ensures, c.in-Err-Fault.place-is, c.in-Err-Fault.why-is)
    (fault_settled _ _ _ c.in-Err-Fault.place c.in-Err-Fault.why c.in-Some.ensures.there says.stands)

pub returns-in-Err-TooDeep-clause-refused : goal.returns-in-Err-TooDeep-clause-refused
returns-in-Err-TooDeep-clause-refused g c =
    let rejected = rw c.in-Err-TooDeep.field-0-is at c.in-Err-TooDeep.ensures.rejected in
    absurd (choices_are_flat _ c.in-Some.ensures.there rejected)

pub returns-in-None-clause-refused : goal.returns-in-None-clause-refused
returns-in-None-clause-refused g c =
    let T = g.T.CanonicalFixedSizedPod in
    let pod = c.in-Ok-look_at_pod.ensures.accepted.shorter in
    let bytes = c.settled.ensures.bytes ∙ ap settled_bytes c.in-Some.ensures.pod in
    rw (← c.deserializer.view_is)
    (other_choice c.in-Some.ensures.there pod.value pod.begins.begins
    (λ v x begins is. c.in-None.ensures.none x
    (subst (Says (fixed (T.fixed x))) (sym bytes) (settled_says _ v (fixed (T.fixed x)) begins is)))
    refl)
