use Rattle.std.proofs.Common.{subst, sym}
use Rattle.spa_typed_read.specs.Members.{IsMadeOf}
use Rattle.spa_bodies.specs.Reading.{IsRead}
use Rattle.spa_typed_read.proofs.Elements.{all_elements}
use Rattle.spa_typed_tests.proofs.reading.elements.ListPodDeserialize.deserialize.Goals as goal

pub returns-clause-read : goal.returns-clause-read
returns-clause-read g c =
    let k = g.E.CanonicalType.CanonicalFixedSizedPod in
    let of = g.E.FixedSizedPod.of_canonical in
    let elements = c.in_ok-elements.elements.items in
    let end = c.in_ok-success.ensures.ok in
    subst (λ rest. IsRead c.args.deserializer rest (IsMadeOf k.kind k.fixed of elements)) (sym end.0)
    (all_elements k.kind k.fixed of c.args.deserializer elements _ _ c.in_ok-reader.ensures.opens
    c.in_ok-elements.ensures end.2)
