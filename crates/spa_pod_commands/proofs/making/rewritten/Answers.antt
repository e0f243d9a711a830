use Rattle.std.proofs.Common.{drop, subst}
use Rattle.spa_pod_commands.specs.Answers.{IsUnmade}
use Rattle.spa_pod_commands.proofs.Keeping.{some_left, unmade}
use Rattle.spa_pod_commands.proofs.making.rewritten.Goals as goal

pub returns-in-Err-clause-refused : goal.returns-in-Err-clause-refused
returns-in-Err-clause-refused c =
    let input = c.as_mut_slice.result.now in
    let place = c.in-Err.place in
    let r = c.in-Err.ensures.refused in
    subst (λ z. IsUnmade z c.refused.result) c.as_mut_slice.ensures.value
    (unmade input (drop place input) place c.in-Err.error r.placed c.refused.result r.behind (some_left input place r.behind) r.refused r.front
    r.same c.refused.ensures)
