use Rattle.std.proofs.Common.{◌≡◌, ◌∙◌, sym, ap, length, rules}
use Rattle.std.specs.Cmp.{unsigned_Decides}
use Rattle.std.proofs.lemmas.Bool.{eqb-true}
use Rattle.spa_format.specs.Typed.{IsBytes}
use Rattle.spa_format.specs.Words.{wide_at}
use Rattle.spa_object_view.proofs.Same.{same_halves}
use Rattle.spa_object_view.proofs.pods.are_same.Goals as goal

pub returns : goal.returns
returns c =
    let first : IsBytes c.args.pod.now = λ i. search rules in
    let second : IsBytes c.args.other.now = λ i. search rules in
    let long : length c.args.pod.now ≡ 16 = c.if-pod-ne-SMALL_LEN.false in
    let other : length c.args.other.now ≡ 16 = c.if-other-ne-SMALL_LEN.false in (
      λ e.
          same_halves _ _ first second long other
          (sym c.u64_at.ensures ∙ c.if-u64_at.false ∙ c.u64_at-2.ensures)
          (sym c.u64_at-3.ensures ∙ eqb-true _ _ e ∙ c.u64_at-4.ensures),
      λ e. (unsigned_Decides _ _).1 (c.u64_at-3.ensures ∙ ap (λ x. wide_at x 8) e ∙ sym c.u64_at-4.ensures),
    )
