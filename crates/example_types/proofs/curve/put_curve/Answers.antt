use Rattle.std.proofs.Common.{◌≤◌, arith}
use Rattle.example_types.proofs.curve.put_curve.Goals as goal

pub returns-clause-room : goal.returns-clause-room
returns-clause-room g c = λ writable fits.
    let one : 1 ≤ 512 = omega arith in
    c.declared_pods_are_written_where_they_fit.ensures.room writable one fits
