use Rattle.std.proofs.Common.{◌≡◌, ◌+◌, length, rules, subst}
use Rattle.std.proofs.Common.{sym}
use Rattle.std.proofs.lemmas.List.{nil_from_length}
use Rattle.spa_device.proofs.Taking.{Continues, ends, goes_on, stops}
use Rattle.spa_device.proofs.device.hand_over.Goals as goal

pub returns-in_default : goal.returns-in_default
returns-in_default g c =
    stops g.D.Attempts.attempts _ _ c.loop-left.device _ c.loop-left.left.now _ c.loop-left.invariant c.in_default.ensures

pub loop-left-preserved : goal.loop-left-preserved
loop-left-preserved g c =
    let most = (g.met.D.Attempts.known _ _ _ _ c.in-Some.ensures).1 in
    subst
    (λ l. Continues g.D.Attempts.attempts c.args.device.now c.args.bytes.now c.attempt.new.self l (c.loop-left.done + c.in-Some.count))
    (sym c.split_at.ensures.back)
    (goes_on g.D.Attempts.attempts _ _ c.loop-left.device _ c.loop-left.left.now _ c.in-Some.count c.loop-left.invariant c.in-Some.ensures most)

pub returns : goal.returns
returns g c =
    let none : length c.loop-left.left.now ≡ 0 = search rules in
    ends g.D.Attempts.attempts _ _ c.loop-left.device c.loop-left.left.now _ c.loop-left.invariant
    (nil_from_length c.loop-left.left.now none)
