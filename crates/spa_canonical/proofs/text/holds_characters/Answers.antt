use Rattle.std.proofs.Common.{◌≡◌, ◌∷◌, length, rules}
use Rattle.spa_canonical.proofs.Texts.{alike_first, alike_through, no_text}
use Rattle.spa_canonical.proofs.text.holds_characters.Goals as goal

pub loop-first-preserved-then-is_ascii : goal.loop-first-preserved-then-is_ascii
loop-first-preserved-then-is_ascii c =
    let e : c.loop-first.left.now ≡ c.in-Some.first.now ∷ c.in-Some.behind.now = search rules in
    alike_through _ _ _ (alike_first _ _ _ e (c.is_ascii.ensures c.if-is_ascii.true)) c.loop-first.invariant

pub returns-clause-text : goal.returns-clause-text
returns-clause-text c = λ _.
    let e : length c.loop-first.left.now ≡ 0 = search rules in
    c.loop-first.invariant.0 (no_text _ e)
