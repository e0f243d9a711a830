use Rattle.std.proofs.Common.{◌≡◌, ◌≤ℤ◌, pos, negsuc, unsigned_abs, to_z, of_z, w32, w64, Some, sym, subst, arith, rules}
use Rattle.std.proofs.lemmas.Int.{ints, to_z-of_z}
use Rattle.spa_format.specs.Kind.{int}
use Rattle.spa_filter_elements.specs.Multiples.{IsFirstSigned}
use Rattle.spa_filter_elements.specs.Order.{IsAtMost}
use Rattle.spa_filter_elements.proofs.StepKinds.{first_by, least-int, none-int, own_between}
use Rattle.spa_filter_elements.proofs.stepped.I32Stepped.first.Goals as goal

pub returns-in-Some : goal.returns-in-Some
returns-in-Some c =
    let s = c.args.steps.now in
    let y = c.in-Some.found in
    let low : to_z w64 (of_z w64 c.from.result) ≡ s.low =
    first_of (search rules, search (arith, ints, to_z-of_z), grind (arith, to_z-of_z)) in
    let high : to_z w64 (of_z w64 c.from-2.result) ≡ s.high =
    first_of (search rules, search (arith, ints, to_z-of_z), grind (arith, to_z-of_z)) in
    let step : c.from-step.result ≡ unsigned_abs s.step =
    first_of (search rules, search (arith, ints, to_z-of_z), grind (arith, to_z-of_z)) in
    let first : IsFirstSigned s.low s.high (unsigned_abs s.step) (Some y) =
    subst (IsFirstSigned s.low s.high (unsigned_abs s.step)) c.in-Some.is
    (first_by _ _ _ s.low s.high (unsigned_abs s.step) c.first_signed.result low high step c.first_signed.ensures) in
    let least : negsuc 2147483647 ≤ℤ s.low = first_of (search rules, search (arith, ints), grind (arith, ints)) in
    let greatest : s.high ≤ℤ pos 2147483647 = first_of (search rules, search (arith, ints), grind (arith, ints)) in
    let own : to_z w32 (of_z w32 (to_z w64 (of_z w64 y))) ≡ y = own_between s.low s.high y least greatest first.0 first.1 in
    rw own (
      ((first.0, first.1), first.2),
      λ x k. subst (λ z. IsAtMost (int z) x) (sym own) (least-int s.low s.high s.step y first x k),
    )

pub returns-in-None : goal.returns-in-None
returns-in-None c =
    let s = c.args.steps.now in
    let low : to_z w64 (of_z w64 c.from.result) ≡ s.low =
    first_of (search rules, search (arith, ints, to_z-of_z), grind (arith, to_z-of_z)) in
    let high : to_z w64 (of_z w64 c.from-2.result) ≡ s.high =
    first_of (search rules, search (arith, ints, to_z-of_z), grind (arith, to_z-of_z)) in
    let step : c.from-step.result ≡ unsigned_abs s.step =
    first_of (search rules, search (arith, ints, to_z-of_z), grind (arith, to_z-of_z)) in
    none-int s.low s.high s.step
    (subst (IsFirstSigned s.low s.high (unsigned_abs s.step)) c.in-None.is
    (first_by _ _ _ s.low s.high (unsigned_abs s.step) c.first_signed.result low high step c.first_signed.ensures))
