use Rattle.std.proofs.Common.{arith, subst, sym}
use Rattle.spa_canonical.specs.Canonical.{AreTextAlike}
use Rattle.spa_canonical.proofs.Texts.{alike_ascii, alike_through}
use Rattle.spa_canonical.proofs.text.behind_ascii.Goals as goal

pub loop-left-preserved : goal.loop-left-preserved
loop-left-preserved c =
    let before = c.loop-left.invariant in
    let left = c.loop-left.left.now in
    let some = alike_ascii 8 left (omega arith) c.loop-left-test.true (c.are_ascii.ensures c.if-not-are_ascii.false) in (
      alike_through _ left _ (subst (λ y. AreTextAlike y left) (sym c.split_at.ensures.back) some) before.0,
      omega (arith, before.1, c.split_at.ensures.back_len),
    )

pub returns-clause-alike : goal.returns-clause-alike
returns-clause-alike c =
    let left = c.loop-left.left.now in
    let some = alike_ascii 4 left (omega arith) c.if-left-lt-HALF_PIECE.false (c.are_four_ascii.ensures c.if-not-are_four_ascii.false) in
    alike_through _ left _ (subst (λ y. AreTextAlike y left) (sym c.split_at-2.ensures.back) some) c.loop-left.invariant.0
