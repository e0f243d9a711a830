use Rattle.std.proofs.Common.{◌≡◌, to_z, of_z, w64, sym, arith, rules}
use Rattle.std.proofs.lemmas.Int.{ints, to_z-of_z}
use Rattle.spa_filter_elements.proofs.StepKinds.{narrowed-int, narrowed_by, own_both}
use Rattle.spa_filter_elements.proofs.stepped.I32Stepped.narrowed.Goals as goal

pub returns : goal.returns
returns c =
    let s = c.args.steps.now in
    let r = c.narrowed-met.result in
    let low : to_z w64 (of_z w64 c.from.result) ≡ s.low =
    first_of (search rules, search (arith, ints, to_z-of_z), grind (arith, to_z-of_z)) in
    let high : to_z w64 (of_z w64 c.from-2.result) ≡ s.high =
    first_of (search rules, search (arith, ints, to_z-of_z), grind (arith, to_z-of_z)) in
    let step : to_z w64 (of_z w64 c.from-3.result) ≡ s.step =
    first_of (search rules, search (arith, ints, to_z-of_z), grind (arith, to_z-of_z)) in
    let other : to_z w64 (of_z w64 c.from-4.result) ≡ c.args.other.now =
    first_of (search rules, search (arith, ints, to_z-of_z), grind (arith, to_z-of_z)) in
    record {
      each = narrowed-int s.low s.high s.step c.args.other.now _ _ _
          (narrowed_by _ _ _ _ _ _ _ _ _ _ _ _ _ _ low high step other
          (sym (own_both r.low c.narrowed-met.ensures.low)) (sym (own_both r.high c.narrowed-met.ensures.high))
          (sym (own_both r.step c.narrowed-met.ensures.step)) c.narrowed-met.ensures.each);
    }
