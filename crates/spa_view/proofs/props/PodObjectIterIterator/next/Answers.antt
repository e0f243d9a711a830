use Rattle.std.proofs.Common.{rules, length, ap}
use Rattle.spa_format.proofs.WalkLemmas.{length-take_extent, walk_behind-next, walk_behind-end}
use Rattle.spa_view.proofs.props.PodObjectIterIterator.next.Goals as goal

pub returns-in_err-extent-clause-steps : goal.returns-in_err-extent-clause-steps
returns-in_err-extent-clause-steps c =
    let none = walk_behind-end 8 c.args.self.now.left.now c.in_err-extent.ensures.none in
    rw c.from_residual.ensures (none, none)

pub invariant_of-result : goal.invariant_of-result
invariant_of-result c =
    let t = c.in_ok-extent.ensures.there in
    record { whole = rw c.split_at.ensures.front (length-take_extent 8 c.in_ok-extent.extent c.args.self.now.left.now t.0 t.1) }

pub returns-clause-steps : goal.returns-clause-steps
returns-clause-steps c =
    let t = c.in_ok-extent.ensures.there in
    rw (c.split_at.ensures.front, c.split_at.ensures.back) (walk_behind-next 8 c.in_ok-extent.extent c.args.self.now.left.now t.0 t.1)

pub returns-clause-goes : goal.returns-clause-goes
returns-clause-goes c = let shorter = ap length (returns-clause-steps c) in search rules
