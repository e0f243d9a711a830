use Rattle.std.proofs.Common.{Some, ap, arith, ◌∙◌}
use Rattle.spa_typed_write.specs.Success.{Success}
use Rattle.spa_typed_write.proofs.OpenPods.{grown_at, grown_to, property_bytes, property_length, whole_encoding, whole_words}
use Rattle.spa_typed_write.proofs.open_pod.OpenPod.put_property.Goals as goal

pub invariant_of-self-2 : goal.invariant_of-self-2
invariant_of-self-2 g c =
    let words = g.met.O.PodOutput.content_appends _ _ _ c.in_ok-put_two.ensures.ok in
    let begun =
    grown_to _ _ _ _ _ (rw (← c.take.ensures.value, c.in-Some.is) at c.self.invariant) (whole_words _ _) words in
    grown_to _ _ _ _ _ begun (whole_encoding (g.P.PodSerialize.value c.args.value.now))
    (ap (λ (s : Success _). g.O.PodOutput.content s.output) c.out.view_is ∙ c.in_ok-out.ensures.encoding)

pub overflow_sub-len : goal.overflow_sub-len
overflow_sub-len g c =
    let words = g.met.O.PodOutput.content_appends _ _ _ c.in_ok-put_two.ensures.ok in
    let put = ap (λ (s : Success _). g.O.PodOutput.content s.output) c.out.view_is ∙ c.in_ok-out.ensures.encoding in
    omega (arith, c.len.ensures, c.len-start.ensures, property_length _ _ _ _ _ _ words put)

pub returns-clause-property : goal.returns-clause-property
returns-clause-property g c =
    let words = g.met.O.PodOutput.content_appends _ _ _ c.in_ok-put_two.ensures.ok in
    let put = ap (λ (s : Success _). g.O.PodOutput.content s.output) c.out.view_is ∙ c.in_ok-out.ensures.encoding in
    rw (← c.self.view_is, ← c.take.ensures.value, c.in-Some.is)
    (ap Some (grown_at _ _ _ _ _ (rw (← c.take.ensures.value, c.in-Some.is) at c.self.invariant)
    (property_bytes _ _ _ _ _ _ words put)))

pub returns-clause-count : goal.returns-clause-count
returns-clause-count g c =
    let words = g.met.O.PodOutput.content_appends _ _ _ c.in_ok-put_two.ensures.ok in
    let put = ap (λ (s : Success _). g.O.PodOutput.content s.output) c.out.view_is ∙ c.in_ok-out.ensures.encoding in
    omega (arith, c.len.ensures, c.len-start.ensures, property_length _ _ _ _ _ _ words put)
