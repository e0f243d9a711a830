use Rattle.spa_typed_read.proofs.Elements.{all_elements}
use Rattle.spa_typed_read.proofs.laws.elements_are_the_arrays.Goals as goal

pub returns : goal.returns
returns g c =
    let k = g.E.CanonicalType.CanonicalFixedSizedPod in
    all_elements k.kind k.fixed g.E.FixedSizedPod.of_canonical
