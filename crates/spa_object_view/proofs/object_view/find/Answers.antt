use Rattle.std.proofs.Common.{arith}
use Rattle.spa_format.specs.Typed.{IsBytes}
use Rattle.spa_object_view.proofs.Listed.{search_begun, search_on, found_first, first_behind, found_none}
use Rattle.spa_object_view.proofs.object_view.find.Goals as goal

pub loop-first-init : goal.loop-first-init
loop-first-init c =
    let bytes : IsBytes c.args.properties.now = λ i. omega (arith, c.type_inv.properties i) in
    search_begun c.args.key _ bytes

pub loop-first-preserved : goal.loop-first-preserved
loop-first-preserved c =
    search_on _ _ _ _ _ _ _ c.in-Some.ensures.first c.if-first-key.false c.loop-first.invariant

pub returns-then-first-key-clause-found : goal.returns-then-first-key-clause-found
returns-then-first-key-clause-found c =
    found_first _ _ _ _ _ _ _ c.in-Some.ensures.first c.if-first-key.true c.loop-first.invariant

pub returns-then-first-key-clause-behind : goal.returns-then-first-key-clause-behind
returns-then-first-key-clause-behind c =
    first_behind _ _ _ _ _ _ _ c.in-Some.ensures.first c.if-first-key.true c.loop-first.invariant

pub returns-clause-found : goal.returns-clause-found
returns-clause-found c =
    found_none _ _ _ c.in_default.ensures.none c.loop-first.invariant
