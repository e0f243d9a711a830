use Rattle.std.proofs.Common.{◌-◌, Some, arith, ap, sym, ◌∙◌}
use Rattle.spa_format.specs.Kind.{body_size}
use Rattle.spa_format.proofs.FixedKinds.{length-fixed_body}
use Rattle.spa_typed_write.proofs.OpenArrays.{array_grown_at, array_grown_to}
use Rattle.spa_typed_write.proofs.elements.ArrayPodSerializer.serialize_element.Goals as goal

pub invariant_of-self-2 : goal.invariant_of-self-2
invariant_of-self-2 g c =
    let kind = g.met.P.CanonicalType.CanonicalFixedSizedPod in
    let x = g.P.CanonicalType.CanonicalFixedSizedPod.fixed c.as_canonical_type.result in
    let size = length-fixed_body x ∙ ap body_size (kind.its_kind c.as_canonical_type.result) ∙ sym kind.its_size in
    array_grown_to _ _ _ _ _ _ (rw (← c.take.ensures.value, c.in-Some.is) at c.self.invariant) (omega arith) size
    (g.met.O.PodOutput.content_appends _ _ _ c.in_ok-serialize_body.ensures.ok)

pub returns-clause-element : goal.returns-clause-element
returns-clause-element g c =
    let h = rw (← c.take.ensures.value, c.in-Some.is) at c.self.invariant in
    let put = g.met.O.PodOutput.content_appends _ _ _ c.in_ok-serialize_body.ensures.ok in
    rw (← c.self.view_is, ← c.take.ensures.value, c.in-Some.is, ← c.as_canonical_type.ensures)
    (c.self.inside.left - 1, omega (arith, c.if-self-eq0.false), ap Some (array_grown_at _ _ _ _ _ _ h put))
