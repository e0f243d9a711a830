use Rattle.std.proofs.Common.{◌<◌, ◌^◌, arith, length, rules}
use Rattle.pod_commands.proofs.Formless.{few_behind}
use Rattle.pod_commands.proofs.refusing.formless.Goals as goal

pub overflow_add-found : goal.overflow_add-found
overflow_add-found c =
    let f = few_behind c.args.input.now c.in-Ok-Some.found (rw c.in-Ok-Some.field-0-is at c.in-Ok-Some.ensures) in
    let l : length c.args.input.now < 2 ^ 64 = search rules in
    omega (arith, f, l)
