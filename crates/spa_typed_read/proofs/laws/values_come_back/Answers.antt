use Rattle.spa_typed_read.proofs.Elements.{single_back, single_begins}
use Rattle.spa_typed_read.proofs.laws.values_come_back.Goals as goal

pub returns : goal.returns
returns g c =
    let k = g.E.CanonicalType.CanonicalFixedSizedPod in
    let e = g.E.FixedSizedPod in
    let met = g.met.E.CanonicalType.CanonicalFixedSizedPod in
    record {
      pod = λ input rest x c lawful b r. single_back k.fixed e.to_canonical e.of_canonical met.same input rest x c lawful b r;
      encoding = λ rest x t. single_begins (k.fixed (e.to_canonical x)) rest t;
    }
