use Rattle.std.proofs.Common.{arith, length, refl, ◌-◌}
use Rattle.spa_pod_commands.proofs.Keeping.{left_fits, unmade}
use Rattle.spa_pod_commands.proofs.making.check.Goals as goal

pub returns-in-Err-clause-refused : goal.returns-in-Err-clause-refused
returns-in-Err-clause-refused c =
    let whole = c.args.bytes.now in
    let left = c.in-Err.left.now in
    let r = c.in-Err.ensures.refused in
    let fits = left_fits whole left r.behind in
    unmade whole left (length whole - length left) c.in-Err.error c.in-Err.error c.refused.result r.behind (omega (arith, fits)) r.refused
    r.front refl c.refused.ensures
