use Rattle.std.proofs.Common.{◌≡◌, [], ◌∷◌, ◌++◌, rules, subst, sym}
use Rattle.spa_typed_read.specs.Members.{TakesElements}
use Rattle.spa_typed_read.proofs.Elements.{took_element}
use Rattle.spa_typed_tests.proofs.reading.elements.taken.Goals as goal

pub loop-preserved : goal.loop-preserved
loop-preserved g c =
    let k = g.E.CanonicalType.CanonicalFixedSizedPod in
    let of = g.E.FixedSizedPod.of_canonical in
    let pushed : c.push_reserved.new.self.items ≡ c.loop.elements.items ++ c.in_ok-element.element ∷ [] = search rules in
    subst (λ xs. TakesElements k.kind k.fixed of c.args.reader.now xs c.deserialize_element.new.self) (sym pushed)
    (took_element k.kind k.fixed of _ _ _ _ _ c.loop.invariant c.in_ok-element.ensures.element)
