use Rattle.std.proofs.Common.{◌≡◌, unsigned_abs, to_z, of_z, w64, subst, Some, arith, rules}
use Rattle.std.proofs.lemmas.Int.{ints, to_z-of_z}
use Rattle.spa_filter_elements.specs.Multiples.{IsCommonMultiple}
use Rattle.spa_filter_elements.proofs.Narrowing.{common_step_is, magnitude_by}
use Rattle.spa_filter_elements.proofs.number_steps.common_step.Goals as goal

pub returns-in-Some : goal.returns-in-Some
returns-in-Some c =
    let x = c.args.x in
    let y = c.args.y in
    let first : c.unsigned_abs.result ≡ unsigned_abs x =
    first_of (search rules, search (arith, ints, to_z-of_z), grind (arith, to_z-of_z)) in
    let second : c.unsigned_abs-2.result ≡ unsigned_abs y =
    first_of (search rules, search (arith, ints, to_z-of_z), grind (arith, to_z-of_z)) in
    let own_least : to_z w64 (of_z w64 c.args.least) ≡ c.args.least =
    first_of (search rules, search (arith, ints, to_z-of_z), grind (arith, to_z-of_z)) in
    let own_greatest : to_z w64 (of_z w64 c.args.greatest) ≡ c.args.greatest =
    first_of (search rules, search (arith, ints, to_z-of_z), grind (arith, to_z-of_z)) in
    let both : IsCommonMultiple (unsigned_abs x) (unsigned_abs y) (Some c.in-Some.common) =
    subst (λ z. IsCommonMultiple z (unsigned_abs y) (Some c.in-Some.common)) first
    (subst (λ z. IsCommonMultiple c.unsigned_abs.result z (Some c.in-Some.common)) second c.in-Some.ensures) in
    common_step_is c.args.least c.args.greatest c.requires c.in-Some.common x y both c.of_magnitude.result
    (magnitude_by c.in-Some.common _ _ _ _ c.of_magnitude.result own_least own_greatest c.of_magnitude.ensures)
