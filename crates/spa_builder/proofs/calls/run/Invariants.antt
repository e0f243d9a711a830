use Rattle.std.proofs.Common.{◌≤◌, take, length, vec_capacity}
use Rattle.spa_builder.proofs.Runs.{SoFar}
use Rattle.spa_builder.proofs.calls.run.Given as goal

abbrev pub invariant-loop-call : goal.invariant-loop-call
invariant-loop-call l = (length l.calls ≤ vec_capacity l.answers) × SoFar
    (take l.call-index l.calls) l.answers.items l.builder
