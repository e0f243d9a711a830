use Rattle.std.proofs.Common.{◌≡◌, ◌<◌, ◌-◌, ◌%◌, pos, unsigned_abs, ◌<ℤ◌, to_z, of_z, w64, subst, arith, rules}
use Rattle.std.proofs.lemmas.Int.{ints, to_z-of_z}
use Rattle.spa_filter_elements.proofs.Signed.{IsSignedUpTo, first_below}
use Rattle.spa_filter_elements.proofs.first.first_signed.Goals as goal

pub returns-then-low-lt0 : goal.returns-then-low-lt0
returns-then-low-lt0 c =
    let found = c.towards_zero.result in
    let high = c.args.high in
    let below : c.args.low <ℤ pos 0 = first_of (grind (arith, ints), search rules) in
    let own : to_z w64 (of_z w64 c.args.low) ≡ c.args.low =
    first_of (search rules, search (arith, ints, to_z-of_z), grind (arith, to_z-of_z)) in
    let own_high : to_z w64 (of_z w64 high) ≡ high =
    first_of (search rules, search (arith, ints, to_z-of_z), grind (arith, to_z-of_z)) in
    let own_found : to_z w64 (of_z w64 found) ≡ found =
    first_of (search rules, search (arith, ints, to_z-of_z), grind (arith, to_z-of_z)) in
    let magnitude : unsigned_abs found ≡ unsigned_abs c.args.low - unsigned_abs c.args.low % c.args.step =
    subst (λ z. unsigned_abs found ≡ unsigned_abs z - unsigned_abs z % c.args.step) own c.towards_zero.ensures.magnitude in
    let above : 0 < c.args.step = omega (arith, c.if-step-eq0.false) in
    let up_to : IsSignedUpTo found high c.up_to.result =
    first_of (search rules, grind (arith, to_z-of_z), search (own_high, own_found, c.up_to.ensures)) in
    first_below c.args.low c.args.step above below found c.towards_zero.ensures.negative magnitude high
    c.up_to.result up_to
