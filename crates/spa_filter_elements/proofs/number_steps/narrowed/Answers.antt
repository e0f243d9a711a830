use Rattle.std.proofs.Common.{◌≡◌, to_z, of_z, w64, subst, arith, rules, None, Some}
use Rattle.std.proofs.lemmas.Int.{ints, to_z-of_z}
use Rattle.spa_filter_elements.specs.NumberSteps.{IsCommonStep}
use Rattle.spa_filter_elements.proofs.Narrowing.{narrowed-step, narrowed-zero, common_by, max_zero, min_zero}
use Rattle.spa_filter_elements.proofs.number_steps.narrowed.Goals as goal

pub returns-in-Some-clause-each : goal.returns-in-Some-clause-each
returns-in-Some-clause-each c =
    let s = c.args.steps.now in
    let own_step : to_z w64 (of_z w64 s.step) ≡ s.step =
    first_of (search rules, search (arith, ints, to_z-of_z), grind (arith, to_z-of_z)) in
    let own_other : to_z w64 (of_z w64 c.args.other) ≡ c.args.other =
    first_of (search rules, search (arith, ints, to_z-of_z), grind (arith, to_z-of_z)) in
    let own_least : to_z w64 (of_z w64 c.args.least) ≡ c.args.least =
    first_of (search rules, search (arith, ints, to_z-of_z), grind (arith, to_z-of_z)) in
    let own_greatest : to_z w64 (of_z w64 c.args.greatest) ≡ c.args.greatest =
    first_of (search rules, search (arith, ints, to_z-of_z), grind (arith, to_z-of_z)) in
    let own_low : to_z w64 (of_z w64 s.low) ≡ s.low =
    first_of (search rules, search (arith, ints, to_z-of_z), grind (arith, to_z-of_z)) in
    let own_high : to_z w64 (of_z w64 s.high) ≡ s.high =
    first_of (search rules, search (arith, ints, to_z-of_z), grind (arith, to_z-of_z)) in
    let own_found : to_z w64 (of_z w64 c.in-Some.step) ≡ c.in-Some.step =
    first_of (search rules, search (arith, ints, to_z-of_z), grind (arith, to_z-of_z)) in
    let common : IsCommonStep s.step c.args.other c.args.least c.args.greatest (Some c.in-Some.step) =
    subst (IsCommonStep s.step c.args.other c.args.least c.args.greatest) c.in-Some.is
    (common_by _ _ _ _ _ _ _ _ c.common_step.result own_step own_other own_least own_greatest c.common_step.ensures) in
    rw own_low (rw own_high (rw own_found
    (narrowed-step s.low s.high s.step c.args.other c.args.least c.args.greatest c.in-Some.step common)))

pub returns-in-None-clause-each : goal.returns-in-None-clause-each
returns-in-None-clause-each c =
    let s = c.args.steps.now in
    let own_step : to_z w64 (of_z w64 s.step) ≡ s.step =
    first_of (search rules, search (arith, ints, to_z-of_z), grind (arith, to_z-of_z)) in
    let own_other : to_z w64 (of_z w64 c.args.other) ≡ c.args.other =
    first_of (search rules, search (arith, ints, to_z-of_z), grind (arith, to_z-of_z)) in
    let own_least : to_z w64 (of_z w64 c.args.least) ≡ c.args.least =
    first_of (search rules, search (arith, ints, to_z-of_z), grind (arith, to_z-of_z)) in
    let own_greatest : to_z w64 (of_z w64 c.args.greatest) ≡ c.args.greatest =
    first_of (search rules, search (arith, ints, to_z-of_z), grind (arith, to_z-of_z)) in
    let own_low : to_z w64 (of_z w64 s.low) ≡ s.low =
    first_of (search rules, search (arith, ints, to_z-of_z), grind (arith, to_z-of_z)) in
    let own_high : to_z w64 (of_z w64 s.high) ≡ s.high =
    first_of (search rules, search (arith, ints, to_z-of_z), grind (arith, to_z-of_z)) in
    let own_max : to_z w64 (of_z w64 c.max.result) ≡ c.max.result =
    first_of (search rules, search (arith, ints, to_z-of_z), grind (arith, to_z-of_z)) in
    let own_min : to_z w64 (of_z w64 c.min.result) ≡ c.min.result =
    first_of (search rules, search (arith, ints, to_z-of_z), grind (arith, to_z-of_z)) in
    let common : IsCommonStep s.step c.args.other c.args.least c.args.greatest None =
    subst (IsCommonStep s.step c.args.other c.args.least c.args.greatest) c.in-None.is
    (common_by _ _ _ _ _ _ _ _ c.common_step.result own_step own_other own_least own_greatest c.common_step.ensures) in
    let above = max_zero s.low _ c.max.result own_low c.max.ensures.value in
    let below = min_zero s.high _ c.min.result own_high c.min.ensures.value in
    rw own_max (rw own_min (rw own_step (narrowed-zero s.low s.high s.step c.args.other c.args.least c.args.greatest
    c.requires.low c.requires.high common c.max.result c.min.result
    above.low_below above.zero_below above.least below.high_above below.zero_above below.greatest)))

pub returns-in-None-clause-low : goal.returns-in-None-clause-low
returns-in-None-clause-low c = first_of (search rules, grind (arith, ints, to_z-of_z))

pub returns-in-None-clause-high : goal.returns-in-None-clause-high
returns-in-None-clause-high c = first_of (search rules, grind (arith, ints, to_z-of_z))
