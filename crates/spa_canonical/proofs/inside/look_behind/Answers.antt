use Rattle.std.proofs.Common.{arith, refl}
use Rattle.spa_canonical.proofs.Looks.{first_list, found_with}
use Rattle.spa_canonical.proofs.inside.look_behind.Goals as goal

pub look_inside-found-requires-clause-left : goal.look_inside-found-requires-clause-left
look_inside-found-requires-clause-left c =
    let p = c.requires.passed in
    (c.args.keyed, p.0, p.1, first_list _ _ _ _ c.args.frames.now _ _ (omega arith) c.list.ensures p.2)

pub look_further-requires : goal.look_further-requires
look_further-requires c =
    let p = c.requires.passed in
    (c.args.keyed, p.0, p.1, (c.in-Full.ensures.found _ _ (first_list _ _ _ _ c.args.frames.now _ _ (omega arith) c.list.ensures p.2)).1 _ refl)

pub returns-in-Full : goal.returns-in-Full
returns-in-Full c = λ pods o.
    c.look_further.ensures _ pods ((c.in-Full.ensures.found _ pods (first_list _ _ _ _ c.args.frames.now _ _ (omega arith) c.list.ensures o)).1 _ refl)

pub returns : goal.returns
returns c = λ pods o.
    found_with _ _ _ _ _ _ c.in_default-found.not-Full
    (c.look_inside-found.ensures.found _ pods (first_list _ _ _ _ c.args.frames.now _ _ (omega arith) c.list.ensures o)).0
