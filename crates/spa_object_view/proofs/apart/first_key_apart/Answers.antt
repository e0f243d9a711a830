use Rattle.std.proofs.Common.{arith}
use Rattle.spa_format.specs.Typed.{IsBytes}
use Rattle.spa_object_view.proofs.Listed.{apart_at_first, first_of}
use Rattle.spa_object_view.proofs.apart.first_key_apart.Goals as goal

pub returns-then-are_apart : goal.returns-then-are_apart
returns-then-are_apart c = λ ps qs w v.
    let bytes : IsBytes c.args.ours.now = λ i. omega (arith, c.type_inv.ours i) in
    apart_at_first ps qs _ _ _ _ _ (first_of ps _ _ _ _ _ bytes w c.in_ok-first.ensures.first) (c.in_ok-found.ensures.found qs v)
    (c.are_apart.ensures c.if-are_apart.true)
