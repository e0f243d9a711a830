use Rattle.spa_read.proofs.Readings.{is_lenient}
use Rattle.std.proofs.Common.{sym, subst}
use Rattle.std.specs.Prelude.{IfErr}
use Rattle.spa_read.specs.Nesting.{RefusesBehind, so_far}
use Rattle.spa_read.proofs.inside.Inside.read_on.Goals as goal

pub returns-in-Struct-clause-refused : goal.returns-in-Struct-clause-refused
returns-in-Struct-clause-refused g c =
    let read = c.read_leaves in
    subst (λ i. IfErr read.result (λ e. RefusesBehind (is_lenient g.row.LENIENT) (so_far i) c.args.left.now.now c.args.opened.now e.place.now read.new.opened e.why))
    (sym c.in-Struct.is) read.ensures.refused

pub returns-in-Object-clause-refused : goal.returns-in-Object-clause-refused
returns-in-Object-clause-refused g c =
    let read = c.read_leaves-in-Object in
    subst (λ i. IfErr read.result (λ e. RefusesBehind (is_lenient g.row.LENIENT) (so_far i) c.args.left.now.now c.args.opened.now e.place.now read.new.opened e.why))
    (sym c.in-Object.is) read.ensures.refused
