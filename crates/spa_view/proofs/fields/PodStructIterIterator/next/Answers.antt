use Rattle.std.proofs.Common.{rules, length, ap}
use Rattle.spa_format.proofs.WalkLemmas.{walk-named, walk-end}
use Rattle.spa_view.proofs.fields.PodStructIterIterator.next.Goals as goal

pub returns-in_err-pod-clause-steps : goal.returns-in_err-pod-clause-steps
returns-in_err-pod-clause-steps c =
    let none = walk-end c.args.self.now.left.now c.in_err-pod.ensures.none in
    rw c.from_residual.ensures (none, none)

pub returns-clause-steps : goal.returns-clause-steps
returns-clause-steps c =
    rw c.split_at.ensures.back (walk-named c.args.self.now.left.now c.in_ok-pod.pod.bytes.now c.in_ok-pod.ensures.there c.in_ok-pod.ensures.front)

pub returns-clause-goes : goal.returns-clause-goes
returns-clause-goes c = let shorter = ap length (returns-clause-steps c) in search rules
