use Rattle.std.proofs.Common.{ap, ◌∙◌, sym, arith, take, drop, ◌++◌}
use Rattle.std.proofs.lemmas.List.{drop-drop}
use Rattle.spa_format.specs.Words.{word_bytes}
use Rattle.spa_format.proofs.FixatedPlaces.{fixable_size, when_fixable}
use Rattle.spa_view.proofs.fixation.fixate_prop.Goals as goal

pub slice_bounds-copy_from_slice-end : goal.slice_bounds-copy_from_slice-end
slice_bounds-copy_from_slice-end c =
    let big = fixable_size c.args.prop.now (sym c.is_fixable.ensures ∙ c.if-is_fixable.true) c.requires in omega arith

pub returns-then-is_fixable : goal.returns-then-is_fixable
unfolding word_bytes
returns-then-is_fixable c =
    let p = c.args.prop.now in
    let f = sym c.is_fixable.ensures ∙ c.if-is_fixable.true in
    let big = fixable_size p f c.requires in
    ap (λ z. take 16 p ++ (z ++ drop 4 (drop 16 p))) c.copy_from_slice.ensures.after
    ∙ ap (λ z. take 16 p ++ (word_bytes 0 ++ z)) (drop-drop 4 16 p)
    ∙ sym (when_fixable p f (omega arith))
