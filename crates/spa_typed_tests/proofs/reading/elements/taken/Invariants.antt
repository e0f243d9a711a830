use Rattle.spa_typed_read.specs.Members.{TakesElements}
use Rattle.spa_typed_tests.proofs.reading.elements.taken.Given as goal

abbrev pub invariant-loop : goal.invariant-loop
invariant-loop g l =
    let k = g.E.CanonicalType.CanonicalFixedSizedPod in
    TakesElements k.kind k.fixed g.E.FixedSizedPod.of_canonical l.fn.reader l.elements.items l.reader
