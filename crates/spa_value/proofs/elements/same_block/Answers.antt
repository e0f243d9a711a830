use Rattle.std.proofs.Common.{refl, ◌∙◌, arith, ◌&&◌}
use Rattle.std.specs.Cmp.Lexicographic.{pointwise}
use Rattle.std.proofs.lemmas.List.{take_all}
use Rattle.spa_value.proofs.Blocks.{pointwise-next}
use Rattle.spa_value.proofs.elements.same_block.Goals as goal

pub loop-place-init : goal.loop-place-init
loop-place-init g c = refl

pub loop-place-preserved : goal.loop-place-preserved
loop-place-preserved g c =
    let E = g.T.PartialEq.eq in
    let at = c.loop-place.place in
    let before = c.loop-place.invariant in
    (λ i. before i && c.eq-is_same.ensures i)
    ∙ pointwise-next E at _ _ c.index-block-place.result c.index-other-place.result
    (grind (arith, c.requires.len, c.loop-place-test.true))
    (grind (arith, c.requires.other_len, c.loop-place-test.true))
    c.index-block-place.is c.index-other-place.is

pub returns : goal.returns
returns g c =
    let E = g.T.PartialEq.eq in
    c.loop-place.invariant
    ∙ (λ i. pointwise E (take_all c.loop-place.place c.args.block.now (grind (arith, c.requires.len, c.loop-place-test.false)) i)
    (take_all c.loop-place.place c.args.other.now (grind (arith, c.requires.other_len, c.loop-place-test.false)) i))
