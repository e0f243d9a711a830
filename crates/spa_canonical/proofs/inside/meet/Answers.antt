use Rattle.std.proofs.Common.{arith}
use Rattle.spa_format.specs.Typed.{IsBytes}
use Rattle.spa_canonical.proofs.Faulted.{stops_at_other, stops_without_front, stops_without_key}
use Rattle.spa_canonical.proofs.inside.meet.Goals as goal

pub returns-in_default : goal.returns-in_default
returns-in_default c = λ canonical s.
    let short = c.in_default.ensures.short in
    stops_without_key _ _ _ short.0 short.1 c.requires

pub returns-in_default-open : goal.returns-in_default-open
returns-in_default-open c = λ canonical s.
    let bytes : IsBytes c.args.left.now = λ i. omega (arith, c.type_inv.left i) in
    stops_without_front _ _ _ _ bytes c.requires c.in-Some.ensures.there c.in_default-open.ensures.short

pub returns-in-None : goal.returns-in-None
returns-in-None c = λ canonical s.
    let bytes : IsBytes c.args.left.now = λ i. omega (arith, c.type_inv.left i) in
    let k = c.in-Some.ensures.there in
    let other = c.in-None.ensures in
    stops_at_other _ _ _ _ _ _ _ bytes c.requires k c.in-Some-open.ensures.there other.other other.short (s _ k)
