use Rattle.std.proofs.Common.{drop, refl, sym, ap, ◌∙◌, arith, ◌&&◌}
use Rattle.std.specs.Cmp.Lexicographic.{pointwise}
use Rattle.spa_value.proofs.Blocks.{pointwise-parted}
use Rattle.spa_value.proofs.elements.same_slices.Goals as goal

pub loop-left-init : goal.loop-left-init
loop-left-init g c = (c.if-elements-others.false, refl)

pub split_at-requires-in-loop-left : goal.split_at-requires-in-loop-left
split_at-requires-in-loop-left g c = grind (arith, c.loop-left.invariant, c.loop-left-test.true)

pub returns-then-not-same_block : goal.returns-then-not-same_block
returns-then-not-same_block g c =
    let E = g.T.PartialEq.eq in
    let first = c.split_at.ensures in
    let second = c.split_at-in-loop-left.ensures in
    let apart = sym c.if-not-same_block.true ∙ c.same_block.ensures ∙ (λ i. pointwise E (first.front i) (second.front i)) in
    ap (λ b. b && pointwise E (drop 128 c.loop-left.left.now) (drop 128 c.loop-left.others_left.now)) apart
    ∙ sym (pointwise-parted E 128 c.loop-left.left.now c.loop-left.others_left.now)
    ∙ c.loop-left.invariant.1

pub loop-left-smaller : goal.loop-left-smaller
loop-left-smaller g c = grind (arith, c.split_at.ensures.back_len, c.loop-left-test.true)

pub loop-left-preserved : goal.loop-left-preserved
loop-left-preserved g c =
    let E = g.T.PartialEq.eq in
    let first = c.split_at.ensures in
    let second = c.split_at-in-loop-left.ensures in
    let alike = sym c.if-not-same_block.false ∙ c.same_block.ensures ∙ (λ i. pointwise E (first.front i) (second.front i)) in (
      grind (arith, first.back_len, second.back_len, c.loop-left.invariant, c.loop-left-test.true),
      (λ i. pointwise E (first.back i) (second.back i))
          ∙ ap (λ b. b && pointwise E (drop 128 c.loop-left.left.now) (drop 128 c.loop-left.others_left.now)) alike
          ∙ sym (pointwise-parted E 128 c.loop-left.left.now c.loop-left.others_left.now)
          ∙ c.loop-left.invariant.1,
    )

pub returns : goal.returns
returns g c = c.eq.ensures ∙ c.loop-left.invariant.1
