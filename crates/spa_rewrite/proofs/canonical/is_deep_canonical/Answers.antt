use Rattle.std.proofs.Common.{sym, ◌∙◌}
use Rattle.std.proofs.lemmas.Bool.{true_from_ne_false}
use Rattle.std.specs.Cmp.Lexicographic.{other_text, same_text}
use Rattle.spa_rewrite.proofs.Appending.{before_rest}
use Rattle.spa_rewrite.proofs.Own.{own_is_same, same_is_own}
use Rattle.spa_rewrite.proofs.canonical.is_deep_canonical.Goals as goal

pub returns-in-Ok : goal.returns-in-Ok
returns-in-Ok c =
    let r = c.in-Ok.ensures.rewriting in
    let front = c.split_at.ensures.front ∙ before_rest _ _ r.value (record { begins = r.begins; follows = c.in-Ok.ensures.rest }) in
    let h = c.eq.ensures in
    let out = c.as_slice.ensures.value in (
      λ e. same_is_own _ _ r (sym front ∙ same_text _ _ (sym e ∙ h) ∙ out),
      λ k. true_from_ne_false _ (λ f. other_text _ _ (sym f ∙ h) (front ∙ own_is_same _ _ _ r k ∙ sym out)),
    )
