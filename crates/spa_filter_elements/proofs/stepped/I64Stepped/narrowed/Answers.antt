use Rattle.std.proofs.Common.{◌≡◌, to_z, of_z, w64, sym, arith, rules}
use Rattle.std.proofs.lemmas.Int.{ints, to_z-of_z}
use Rattle.spa_filter_elements.proofs.StepKinds.{narrowed-long, narrowed_by}
use Rattle.spa_filter_elements.proofs.stepped.I64Stepped.narrowed.Goals as goal

pub returns : goal.returns
returns c =
    let s = c.args.steps.now in
    let r = c.narrowed-met.result in
    let low : to_z w64 (of_z w64 s.low) ≡ s.low =
    first_of (search rules, search (arith, ints, to_z-of_z), grind (arith, to_z-of_z)) in
    let high : to_z w64 (of_z w64 s.high) ≡ s.high =
    first_of (search rules, search (arith, ints, to_z-of_z), grind (arith, to_z-of_z)) in
    let step : to_z w64 (of_z w64 s.step) ≡ s.step =
    first_of (search rules, search (arith, ints, to_z-of_z), grind (arith, to_z-of_z)) in
    let other : to_z w64 (of_z w64 c.args.other.now) ≡ c.args.other.now =
    first_of (search rules, search (arith, ints, to_z-of_z), grind (arith, to_z-of_z)) in
    let own_low : to_z w64 (of_z w64 r.low) ≡ r.low =
    first_of (search rules, search (arith, ints, to_z-of_z), grind (arith, to_z-of_z)) in
    let own_high : to_z w64 (of_z w64 r.high) ≡ r.high =
    first_of (search rules, search (arith, ints, to_z-of_z), grind (arith, to_z-of_z)) in
    let own_step : to_z w64 (of_z w64 r.step) ≡ r.step =
    first_of (search rules, search (arith, ints, to_z-of_z), grind (arith, to_z-of_z)) in
    record {
      each = narrowed-long s.low s.high s.step c.args.other.now _ _ _
          (narrowed_by _ _ _ _ _ _ _ _ _ _ _ _ _ _ low high step other (sym own_low) (sym own_high) (sym own_step)
          c.narrowed-met.ensures.each);
    }
