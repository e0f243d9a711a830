use Rattle.std.proofs.Common.{arith, rules}
use Rattle.spa_canonical.proofs.Texts.{alike_three, alike_two}
use Rattle.spa_canonical.proofs.text.character_len.Goals as goal

pub returns-in-194-to-223-clause-alike : goal.returns-in-194-to-223-clause-alike
returns-in-194-to-223-clause-alike c = λ _.
    let second = c.is_following.ensures c.if-not-is_following.false in
    alike_two _ c.if-text-lt2.false (search rules) (search rules) second.0 (omega (arith, second.1))

pub returns-in-225-to-236-clause-alike : goal.returns-in-225-to-236-clause-alike
returns-in-225-to-236-clause-alike c = λ _.
    let second = c.is_following.ensures c.if-not-is_following.false in
    let third = c.is_following-then-text-gt2.ensures c.if-is_following.true in
    alike_three _ c.if-text-gt2.true (search rules) (search rules) second.0 (omega (arith, second.1)) third.0 (omega (arith, third.1))
