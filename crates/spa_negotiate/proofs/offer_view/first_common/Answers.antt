use Rattle.std.proofs.Common.{arith}
use Rattle.spa_negotiate.proofs.OfferViews.{shared}
use Rattle.spa_negotiate.proofs.offer_view.first_common.Goals as goal

pub returns-then-both_admit : goal.returns-then-both_admit
returns-then-both_admit c =
    shared c.args.a.now c.args.b.now _ c.if-a-b.false c.if-a.false (c.both_admit.ensures c.if-both_admit.true)

pub returns-then-both_admit-2 : goal.returns-then-both_admit-2
returns-then-both_admit-2 c =
    let same = c.if-a-b-2.false in
    let long = c.if-b.false in
    shared c.args.a.now c.args.b.now _ c.if-a-b.false (omega arith) (c.both_admit-2.ensures c.if-both_admit-2.true)

pub returns-then-are_long_enums : goal.returns-then-are_long_enums
returns-then-are_long_enums c = shared c.args.a.now c.args.b.now _ c.if-a-b.false c.in_ok-value.ensures.long c.in_ok-value.ensures.admitted

pub returns-in-Some : goal.returns-in-Some
returns-in-Some c =
    let same = c.if-a-b-2.false in
    let long = c.in-Some.ensures.long in
    shared c.args.a.now c.args.b.now _ c.if-a-b.false (omega arith) (λ v w o p. let both = c.in-Some.ensures.admitted w v p o in (both.1, both.0))

pub returns-in-Some-first_of : goal.returns-in-Some-first_of
returns-in-Some-first_of c =
    shared c.args.a.now c.args.b.now _ c.if-a-b.false c.in-Some-first_of.ensures.long c.in-Some-first_of.ensures.admitted

pub returns-then-both_admit-3 : goal.returns-then-both_admit-3
returns-then-both_admit-3 c =
    shared c.args.a.now c.args.b.now _ c.if-a-b.false c.if-low-a.true (c.both_admit-then-low-a.ensures c.if-both_admit-3.true)

pub returns-then-both_admit-4 : goal.returns-then-both_admit-4
returns-then-both_admit-4 c =
    let same = c.if-a-b-2.false in
    let long = c.if-low-b.true in
    shared c.args.a.now c.args.b.now _ c.if-a-b.false (omega arith) (c.both_admit-then-low-b.ensures c.if-both_admit-4.true)
