use Rattle.std.proofs.Common.{arith, refl, reverse, subst, sym}
use Rattle.spa_canonical.specs.Look.{Onward}
use Rattle.spa_canonical.proofs.Looks.{copied, found_with}
use Rattle.spa_canonical.proofs.inside.look_further.Goals as goal

pub look_inside-found-requires-clause-left : goal.look_inside-found-requires-clause-left
look_inside-found-requires-clause-left c =
    let w = c.requires in
    let same = copied c.args.frames.now _ _ 17 (omega arith) c.take_over.ensures in
    (w.0, w.1, w.2, subst (λ lists. Onward c.args.canonical w.0 w.1 (reverse lists) c.args.surplus) (sym same) w.3)

pub look_furthest-requires : goal.look_furthest-requires
look_furthest-requires c =
    let w = c.requires in
    let same = copied c.args.frames.now _ _ 17 (omega arith) c.take_over.ensures in
    let o = subst (λ lists. Onward c.args.canonical w.0 w.1 (reverse lists) c.args.surplus) (sym same) w.3 in
    (w.0, w.1, w.2, (c.in-Full.ensures.found w.0 w.1 o).1 _ refl)

pub returns-in-Full : goal.returns-in-Full
returns-in-Full c = λ all pods o.
    let same = copied c.args.frames.now _ _ 17 (omega arith) c.take_over.ensures in
    let p = subst (λ lists. Onward c.args.canonical all pods (reverse lists) c.args.surplus) (sym same) o in
    c.look_furthest.ensures all pods ((c.in-Full.ensures.found all pods p).1 _ refl)

pub returns : goal.returns
returns c = λ all pods o.
    let same = copied c.args.frames.now _ _ 17 (omega arith) c.take_over.ensures in
    let p = subst (λ lists. Onward c.args.canonical all pods (reverse lists) c.args.surplus) (sym same) o in
    found_with _ _ _ _ _ _ c.in_default.not-Full (c.look_inside-found.ensures.found all pods p).0
