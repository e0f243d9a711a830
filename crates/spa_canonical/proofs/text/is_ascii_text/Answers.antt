use Rattle.std.proofs.Common.{◌≡◌, ◌+◌, ◌-◌, ◌∙◌, ap, arith, drop, length, subst}
use Rattle.std.proofs.lemmas.Bool.{and_parts}
use Rattle.std.proofs.lemmas.List.{drop-drop}
use Rattle.spa_canonical.specs.Canonical.{IsAsciiFor}
use Rattle.spa_canonical.proofs.Texts.{ascii_on}
use Rattle.spa_canonical.proofs.text.is_ascii_text.Goals as goal

pub loop-left-init : goal.loop-left-init
loop-left-init c =
    let text = c.args.text.now in
    let size = c.split_at-2.ensures.back_len in
    let at : 8 ≡ length text - length c.split_at-2.result.1.now = omega arith in
    record {
      within = omega arith;
      ascii = subst (λ n. IsAsciiFor n text) at (c.are_ascii.ensures (and_parts _ _ c.if-not-are_ascii.false).0);
      same = c.split_at-2.ensures.back ∙ ap (λ n. drop n text) at;
    }

pub loop-left-preserved : goal.loop-left-preserved
loop-left-preserved c =
    let text = c.args.text.now in
    let left = c.loop-left.left.now in
    let before = c.loop-left.invariant in
    let at = length text - length left in
    let within = before.within in
    let size = c.split_at-in-loop-left.ensures.back_len in
    let more : at + 8 ≡ length text - length c.split_at-in-loop-left.result.1.now = omega arith in
    record {
      within = omega arith;
      ascii = subst (λ n. IsAsciiFor n text) more
          (ascii_on at at 8 text (omega arith) before.ascii (subst (IsAsciiFor 8) before.same (c.are_ascii-in-loop-left.ensures c.if-not-are_ascii-2.false)));
      same = c.split_at-in-loop-left.ensures.back ∙ ap (drop 8) before.same ∙ drop-drop 8 at text ∙ ap (λ n. drop n text) more;
    }

pub returns : goal.returns
returns c = λ _.
    let text = c.args.text.now in
    let last = c.are_ascii-2.ensures (and_parts _ _ c.if-not-are_ascii.false).1 in
    let all : length text - 8 + 8 ≡ length text = omega arith in
    subst (λ n. IsAsciiFor n text) all
    (ascii_on (length text - 8) _ 8 text (omega arith) c.loop-left.invariant.ascii (subst (IsAsciiFor 8) c.split_at.ensures.back last))
