use Rattle.std.proofs.Common.{◌<◌, arith}
use Rattle.spa_filter_elements.proofs.Firsts.{first_itself, first_behind, none_behind}
use Rattle.spa_filter_elements.proofs.first.first_multiple.Goals as goal

pub returns-then-rest-eq0 : goal.returns-then-rest-eq0
returns-then-rest-eq0 c =
    let above : 0 < c.args.step = omega (arith, c.if-step-eq0.false) in
    first_itself c.args.low c.args.high c.args.step above c.if-rest-eq0.true _ c.within.ensures

pub returns-in-Some : goal.returns-in-Some
returns-in-Some c =
    let above : 0 < c.args.step = omega (arith, c.if-step-eq0.false) in
    first_behind c.args.low c.args.high c.args.step above c.if-rest-eq0.false c.in-Some.found
    c.in-Some.ensures.1 _ c.within-in-Some.ensures

pub returns-in-None : goal.returns-in-None
returns-in-None c =
    let above : 0 < c.args.step = omega (arith, c.if-step-eq0.false) in
    none_behind c.args.low c.args.high c.args.step above c.if-rest-eq0.false (omega arith) c.in-None.ensures
