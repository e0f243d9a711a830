use Rattle.std.proofs.Common.{◌≡◌, ◌≤◌, ◌+◌, ◌-◌, ◌++◌, ℕ, List, arith, ap, sym, ◌∙◌, subst, take, drop, length, length-drop, ◌<◌}
use Rattle.std.proofs.lemmas.List.{take_rest, take-append-drop}
use Rattle.spa_format.specs.Walk.{extent_behind}
use Rattle.spa_format.specs.Fixation.{fixated_property}
use Rattle.spa_format.proofs.WalkLemmas.{length-take_extent}
use Rattle.spa_format.proofs.FixationLemmas.{fixated_properties-end}
use Rattle.spa_view.proofs.FixationSteps.{properties_step, length-step}
use Rattle.spa_view.proofs.fixation.fixate_props.Goals as goal

-- what is there, said of the bytes from this place on
there : (xs : List ℕ) (at n : ℕ) → (n ≡ extent_behind 8 (take (length xs - at) (drop at xs))) × (n ≤ length (take (length xs - at) (drop at xs))) → (n ≡ extent_behind 8 (drop at xs)) × (n ≤ length (drop at xs))
there xs at n h = subst (λ z. (n ≡ extent_behind 8 z) × (n ≤ length z)) (take_rest xs at) h

same : (at n : ℕ) → at + n - at ≡ n
same at n = omega arith

pub fixate_prop-requires : goal.fixate_prop-requires
fixate_prop-requires c =
    let xs = c.loop-extent.props in
    let at = c.loop-extent.at in
    let n = c.in-Some.extent in
    let t = there xs at n c.in-Some.ensures.there in
    rw (same at n) (length-take_extent 8 n (drop at xs) t.0 t.1)

pub loop-extent-preserved : goal.loop-extent-preserved
loop-extent-preserved c =
    let xs = c.loop-extent.props in
    let at = c.loop-extent.at in
    let n = c.in-Some.extent in
    let t = there xs at n c.in-Some.ensures.there in
    let ys = c.fixate_prop.new.prop in
    let k = at + n - at in
    let e : ys ≡ fixated_property (take n (drop at xs)) = c.fixate_prop.ensures ∙ ap (λ m. fixated_property (take m (drop at xs))) (same at n) in
    let l = length-step xs ys at n k c.loop-extent.invariant.0 t.0 t.1 (same at n) e in
    let d = length-drop at xs in
    let le = t.1 in
    let la = c.loop-extent.invariant.0 in (
      omega arith,
      l ∙ c.loop-extent.invariant.1,
      properties_step xs ys at n k _ c.loop-extent.invariant.0 t.0 t.1 (same at n) e c.loop-extent.invariant.2,
    )

pub returns : goal.returns
returns c =
    let xs = c.loop-extent.props in
    let at = c.loop-extent.at in
    let short = subst (λ z. length z < extent_behind 8 z) (take_rest xs at) c.in_default.ensures.none in
    sym (take-append-drop at xs) ∙ ap (λ z. take at xs ++ z) (sym (fixated_properties-end (drop at xs) short)) ∙ c.loop-extent.invariant.2
