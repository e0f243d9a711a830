use Rattle.std.proofs.Common.{◌≡◌, to_z, of_z, w64, sym, ◌∙◌, arith, rules}
use Rattle.std.proofs.lemmas.Int.{ints, to_z-of_z}
use Rattle.spa_filter_elements.proofs.StepKinds.{AreSidesNarrowed-signed, narrowed_by, own_side}
use Rattle.spa_filter_elements.proofs.stepped.narrowed_side.Goals as goal

pub returns : goal.returns
returns c =
    let r = c.narrowed-met.result in
    let low : to_z w64 (of_z w64 c.from.result) ≡ c.from.result =
    first_of (search rules, search (arith, ints, to_z-of_z), grind (arith, to_z-of_z)) in
    let high : to_z w64 (of_z w64 c.from-2.result) ≡ c.from-2.result =
    first_of (search rules, search (arith, ints, to_z-of_z), grind (arith, to_z-of_z)) in
    let step : to_z w64 (of_z w64 c.from-3.result) ≡ c.from-3.result =
    first_of (search rules, search (arith, ints, to_z-of_z), grind (arith, to_z-of_z)) in
    let other : to_z w64 (of_z w64 c.from-4.result) ≡ c.from-4.result =
    first_of (search rules, search (arith, ints, to_z-of_z), grind (arith, to_z-of_z)) in
    AreSidesNarrowed-signed c.args.steps.now _ c.args.other
    (narrowed_by _ _ _ _ _ _ _ _ _ _ _ _ _ _ (low ∙ c.from.ensures) (high ∙ c.from-2.ensures)
    (step ∙ c.from-3.ensures) (other ∙ c.from-4.ensures) (sym (own_side r.low c.narrowed-met.ensures.low))
    (sym (own_side r.high c.narrowed-met.ensures.high)) (sym (own_side r.step c.narrowed-met.ensures.step))
    c.narrowed-met.ensures.each)
