use Rattle.std.proofs.Common.{arith}
use Rattle.spa_object_view.proofs.Passed.{new_above}
use Rattle.spa_object_view.proofs.keyed.Keyed.is_new.Goals as goal

pub returns-then-from-bound : goal.returns-then-from-bound
returns-then-from-bound c = λ ps done left w p b h.
    let from = c.from.ensures in
    new_above _ c.args.bound done b (omega arith)

pub returns : goal.returns
returns c = λ ps done left w p b h. c.is_first.ensures ps done left w p h
