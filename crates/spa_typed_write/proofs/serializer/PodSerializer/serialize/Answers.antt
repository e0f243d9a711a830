use Rattle.std.proofs.Common.{[], List, ℕ, subst}
use Rattle.spa_format.specs.Normal.{normal_of}
use Rattle.spa_format.specs.Pod.{IsPod}
use Rattle.spa_typed_write.proofs.serializer.PodSerializer.serialize.Goals as goal

pub returns-clause-back : goal.returns-clause-back
returns-clause-back g c =
    let v = g.P.PodSerialize.value c.args.pod.now in
    let w = c.in_ok-out.ensures in
    let P : List ℕ → Type 0 = λ b. IsPod b (normal_of v) in
    subst P (c.encodings_read_back.ensures.there v [] w.typed w.writable)
    (c.encodings_read_back.ensures.value v [] w.typed w.writable).pod
