use Rattle.std.proofs.Common.{ap, sym, ◌∙◌, arith}
use Rattle.spa_format.specs.Words.{word_at}
use Rattle.spa_format.proofs.WalkLemmas.{length-take_extent}
use Rattle.spa_format.proofs.WordLemmas.{word_at-drop}
use Rattle.spa_view.proofs.SettledPods.{holds, runs_past}
use Rattle.spa_view.proofs.pod.Pod.none_value.Goals as goal

pub returns-then-size-clause-none : goal.returns-then-size-clause-none
returns-then-size-clause-none c =
    let b = c.args.self.now.bytes.now in
    let child = ap (λ d. word_at d 0) c.split_at.ensures.back ∙ word_at-drop 16 0 b in
    let size = c.u32_at-size.ensures ∙ child in
    let own = c.size.ensures in
    let past = c.if-size.true in
    runs_past b (omega arith)

pub invariant_of-result : goal.invariant_of-result
invariant_of-result c =
    let b = c.args.self.now.bytes.now in
    let child = ap (λ d. word_at d 0) c.split_at.ensures.back ∙ word_at-drop 16 0 b in
    let size = c.u32_at-size.ensures in
    let own = c.size.ensures in
    let inside = c.if-size.false in
    let whole = c.args.self.now.whole in
    let behind = c.split_at.ensures.back_len in
    let e = c.extent_of.ensures.extent in
    let h = length-take_extent 0 c.extent_of.result c.split_at.result.1.now (omega arith) (omega arith) in
    record { whole = omega arith }

pub returns-clause-there : goal.returns-clause-there
returns-clause-there c =
    let b = c.args.self.now.bytes.now in
    let child = ap (λ d. word_at d 0) c.split_at.ensures.back ∙ word_at-drop 16 0 b in
    let size = c.u32_at-size.ensures ∙ child in
    let own = c.size.ensures in
    let inside = c.if-size.false in
    let is = c.is_choice.ensures.0 c.if-not-is_choice.false in
    holds b is.0 is.1 (sym c.u32_at.ensures ∙ c.if-u32_at-ne-NONE_SHAPE.false) (omega arith)
