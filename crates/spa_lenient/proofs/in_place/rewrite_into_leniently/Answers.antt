use Rattle.std.proofs.Common.{[], ◌∙◌, length, ap, arith}
use Rattle.spa_lenient.proofs.InPlace.{as_shorter, exactly_all, exactly_as, put_behind}
use Rattle.spa_lenient.proofs.in_place.rewrite_into_leniently.Goals as goal

pub returns-in-Some-clause-counted : goal.returns-in-Some-clause-counted
returns-in-Some-clause-counted c = exactly_as _ _ c.in-Some.ensures.counted

pub returns-in-Some-clause-within : goal.returns-in-Some-clause-within
returns-in-Some-clause-within c =
    as_shorter _ _ (λ i. omega (arith, c.type_inv.input i)) (exactly_as _ _ c.in-Some.ensures.counted)

pub returns-in-Some-clause-rewritten : goal.returns-in-Some-clause-rewritten
returns-in-Some-clause-rewritten c = λ room. exactly_all _ [] _ (c.in-Some.ensures.rewritten room)

pub put_first-requires : goal.put_first-requires
put_first-requires c =
    let within = c.in_ok-rewrite_all_leniently.ensures.within in
    let put = ap length c.as_slice.ensures.value in
    let none = ap length c.new-rewritten.ensures.items in
    let room = c.if-out-input.false in
    let same = c.rewrite_into.auto.out in
    omega arith

pub returns-clause-behind : goal.returns-clause-behind
returns-clause-behind c =
    let within = c.in_ok-rewrite_all_leniently.ensures.within in
    let put = ap length c.as_slice.ensures.value in
    let none = ap length c.new-rewritten.ensures.items in
    put_behind c.as_slice.result.now _ _ (length c.args.input.now) c.put_first.ensures (omega arith) ∙ c.rewrite_into.ensures.behind
