use Rattle.std.proofs.Common.{arith, reverse, subst, sym}
use Rattle.spa_canonical.specs.Look.{IsFound, Onward}
use Rattle.spa_canonical.proofs.Looks.{copied}
use Rattle.spa_canonical.proofs.inside.look_furthest.Goals as goal

pub look_inside-requires-clause-left : goal.look_inside-requires-clause-left
look_inside-requires-clause-left c =
    let w = c.requires in
    let same = copied c.args.frames.now _ _ 65 (omega arith) c.take_over.ensures in
    (w.0, w.1, w.2, subst (λ lists. Onward c.args.canonical w.0 w.1 (reverse lists) c.args.surplus) (sym same) w.3)

pub returns : goal.returns
returns c = λ all pods o.
    let same = copied c.args.frames.now _ _ 65 (omega arith) c.take_over.ensures in
    let p = subst (λ lists. Onward c.args.canonical all pods (reverse lists) c.args.surplus) (sym same) o in
    subst (λ n. IsFound c.args.canonical n all pods c.look_inside.result) (omega arith) (c.look_inside.ensures.found all pods p).0
