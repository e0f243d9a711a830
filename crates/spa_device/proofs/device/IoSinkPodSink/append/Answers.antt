use Rattle.std.proofs.Common.{arith}
use Rattle.spa_device.specs.Counting.{Attempted}
use Rattle.spa_device.proofs.Taking.{counts, took, took_all}
use Rattle.spa_device.proofs.device.IoSinkPodSink.append.Goals as goal

pub overflow_add-self : goal.overflow_add-self
overflow_add-self g c =
    let contents = g.W.Write.contents in
    let all = counts (λ a bytes taken b. Attempted (contents a) (contents b) bytes taken) contents (λ a b bytes taken h. h)
    _ _ _ _ _ c.hand_over-taken.ensures in
    let most = all.most in
    let room = c.if-bytes-self.false in
    omega (arith, most, room, c.self.ranges)

pub returns-then-failed-clause-begun : goal.returns-then-failed-clause-begun
returns-then-failed-clause-begun g c =
    let contents = g.W.Write.contents in
    let all = counts (λ a bytes taken b. Attempted (contents a) (contents b) bytes taken) contents (λ a b bytes taken h. h)
    _ _ _ _ _ c.hand_over-taken.ensures in
    (c.hand_over-taken.result.0, rw (← c.self.view_is) (took contents _ _ _ _ _ all (omega arith) (omega arith)))

pub returns-clause-ok : goal.returns-clause-ok
returns-clause-ok g c =
    let contents = g.W.Write.contents in
    let all = counts (λ a bytes taken b. Attempted (contents a) (contents b) bytes taken) contents (λ a b bytes taken h. h)
    _ _ _ _ _ c.hand_over-taken.ensures in
    rw (← c.self.view_is) (took_all contents _ _ _ _ (rw c.if-failed.false at all) (omega arith) (omega arith))
